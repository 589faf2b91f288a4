pub mod Rdata
pub mod Text
pub mod NsecConvert
