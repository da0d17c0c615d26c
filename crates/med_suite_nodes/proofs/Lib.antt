pub mod FirstKey
