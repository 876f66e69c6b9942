pub mod SeparatedParts
pub mod Urls
pub mod Transports
pub mod NptTimes
pub mod Ranges
pub mod SessionIds
pub mod Sdp
pub mod Laws
