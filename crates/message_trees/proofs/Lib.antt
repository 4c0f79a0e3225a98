mod LastKindLemmas
mod LoadTreeLemmas
