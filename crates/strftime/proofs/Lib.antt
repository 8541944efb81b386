pub mod EntryOutcomes
