pub mod Withdrawals
pub mod Cores
pub mod Laws
