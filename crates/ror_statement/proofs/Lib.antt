pub mod Sublists
