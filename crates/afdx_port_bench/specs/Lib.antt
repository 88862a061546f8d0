pub mod ShortLaw
