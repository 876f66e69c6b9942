pub mod PacketContents
pub mod StreamItems
pub mod SystemStreams
pub mod StandardFields
pub mod ValidStates
pub mod ParserStates
