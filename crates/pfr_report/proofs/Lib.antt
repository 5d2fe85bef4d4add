mod EscapeLemmas
mod LineLemmas
