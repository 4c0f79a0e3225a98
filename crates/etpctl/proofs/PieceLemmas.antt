-- A text that is written piece by piece.
use Rattle.std.proofs.Common.{◌≡◌, ◌≤◌, ◌+◌, ℕ, List, ◌++◌, length, take, drop, ap, sym, ◌∙◌, refl, subst, arith, length-append, take_at, drop_at}
use lib.Seq.{take-add, take-append-le}
use Rattle.std.specs.Io.KnownBytes.{Appends}
use Rattle.std.proofs.KnownBytes.{Appends-trans}
use Rattle.std.specs.declared.option.Option.{Option}
use Rattle.etp_outside.specs.Faults.{Rose}
use Rattle.etp_outside.specs.Whole.{WritesAll}
use Rattle.etp_outside.specs.declared.whole.Written.{Written}
use Rattle.etp_outside.specs.declared.whole.Written.TheVariants.{Done, Failed}
use Rattle.etpctl.specs.Progress.{IsWritten}

-- the front of a text followed by a piece continues into the piece
front_into : (n : ℕ) (text piece : List ℕ) → text ++ take n piece ≡ take (length text + n) (text ++ piece)
front_into n text piece =
    sym (take-add (length text) n (text ++ piece) ∙ ap (λ l. l ++ take n (drop (length text) (text ++ piece))) (take_at text piece (length text) refl)
    ∙ ap (λ l. text ++ take n l) (drop_at text piece (length text) refl))

-- a piece after a text that is there
pub piece_written : (w : Written) (text piece : List ℕ) (a b c : Option (List ℕ)) (f g h : ℕ) → IsWritten Done text a b f g
    → WritesAll w piece b c → g ≤ h → (w ≡ Failed → Rose g h) → IsWritten w (text ++ piece) a c f h
piece_written Done text piece a b c f g h before bytes kept cause = (Appends-trans a b c text piece before.0 bytes, omega (arith, before.1, kept))
piece_written Failed text piece a b c f g h before bytes kept cause =
    let rose : Rose g h = cause refl in
    ((length text + bytes.0, simp length-append (omega (arith, bytes.1)), subst (Appends a c) (front_into bytes.0 text piece) (Appends-trans a b c text (take bytes.0 piece) before.0 bytes.2)), omega (arith, before.1, rose))

-- a piece after a text of which a prefix is there is not written
pub piece_lost : (text piece : List ℕ) (a b : Option (List ℕ)) (f g : ℕ) → IsWritten Failed text a b f g → IsWritten Failed (text ++ piece) a b f g
piece_lost text piece a b f g before =
    ((before.0.0, simp length-append (omega (arith, before.0.1)), subst (Appends a b) (sym (take-append-le before.0.0 text piece (omega (arith, before.0.1)))) before.0.2), before.1)
