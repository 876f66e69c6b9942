mod WordLemmas
pub mod MethodTable
pub mod NameParts
