pub mod RunIn
