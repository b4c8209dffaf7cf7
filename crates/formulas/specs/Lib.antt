pub mod Tokens
pub mod TokensUnique
pub mod TokensText
pub mod Phrases
pub mod PhrasesUnique
