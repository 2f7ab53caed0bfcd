pub mod RankingFaults
pub mod Search
