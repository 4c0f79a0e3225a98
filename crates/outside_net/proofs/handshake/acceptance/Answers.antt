use Rattle.std.proofs.Common.{◌≡◌, refl, sym, subst, Option, None, Some}
use Rattle.std.specs.Prelude.{IfSome, codes}
use Rattle.httparse.specs.declared.borrowed.Header.{Header}
use Rattle.outside_net.specs.Head.{IsAcceptance}
use Rattle.outside_net.proofs.handshake.acceptance.Goals as goal

weaker : {T : Type 0} (P Q : T → Type 0) (o : Option T) → ((x : T) → P x → Q x) → IfSome o P → IfSome o Q
weaker P Q None f h = tt
weaker P Q (Some x) f h = f x h

pub returns-then-upgrade : goal.returns-then-upgrade
returns-then-upgrade c =
    let chosen : Header = record { name = record c.as_bytes.result { now = codes "sec-websocket-protocol" }; value = c.as_bytes.result } in
    subst (λ b. IfSome c.acceptance_with.result (λ v. IsAcceptance b c.args.upgrade.now.accept v.items)) (sym c.if-upgrade.true)
    (weaker _ _ c.acceptance_with.result (λ v is. (chosen, refl, c.as_bytes.ensures.value, is)) c.acceptance_with.ensures)
