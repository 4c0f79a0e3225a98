use Rattle.std.proofs.Common.{◌∙◌, subst}
use Rattle.object_store.specs.Tables.{ListsSpaces}
use Rattle.object_store.proofs.ListedLemmas.{lists_spaces}
use Rattle.object_store.proofs.store.ObjectStore.spaces.Goals as goal

pub returns : goal.returns
returns c =
    subst (λ t. ListsSpaces t c.as_slice.result.now) c.self.view_is
    (lists_spaces _ c.as_slice.result.now (c.as_slice.ensures ∙ c.values.ensures.rest) c.len-count.ensures.unique c.self.invariant.spaces_say)
