mod NumeralLemmas
mod BitLemmas
mod MarkLemmas
mod LineLemmas
mod TextLemmas
mod SpellLemmas
