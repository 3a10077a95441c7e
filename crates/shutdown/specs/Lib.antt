pub mod Shutdown
