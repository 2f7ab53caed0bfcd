pub mod RollWords
