pub mod Pictured
