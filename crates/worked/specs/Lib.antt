pub mod Harbour
