pub mod CrossProducts
