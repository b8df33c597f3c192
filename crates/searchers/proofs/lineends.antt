pub mod LastBytes
