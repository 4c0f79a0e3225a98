-- Facts about a revealed content compose; for the crates above too.
use Rattle.std.proofs.Common.{None, Some}
use Rattle.std.specs.declared.option.Option.{Option}
use Rattle.etp_outside.specs.Told.{Told}

-- a weaker fact
pub told_weaker : {X : Type 0} (a b : Option X) (P Q : X → X → Type 0) → ((x y : X) → P x y → Q x y) → Told a b P → Told a b Q
told_weaker None b P Q f h = tt
told_weaker (Some x) None P Q f h = h
told_weaker (Some x) (Some y) P Q f h = f x y h

-- a fact over two steps
pub told_trans : {X : Type 0} (a b c : Option X) (P Q R : X → X → Type 0) → ((x y z : X) → P x y → Q y z → R x z) → Told a b P → Told b c Q → Told a c R
told_trans None b c P Q R f p q = tt
told_trans (Some x) None c P Q R f p q = absurd p
told_trans (Some x) (Some y) None P Q R f p q = absurd q
told_trans (Some x) (Some y) (Some z) P Q R f p q = f x y z p q

-- no step
pub told_self : {X : Type 0} (a : Option X) (P : X → X → Type 0) → ((x : X) → P x x) → Told a a P
told_self None P f = tt
told_self (Some x) P f = f x
