-- A text that is gathered and written in parts, for the crates above too.
use Rattle.std.proofs.Common.{◌≡◌, List, ℕ, [], ◌++◌, take, drop, ap, sym, ◌∙◌, subst, refl, append_assoc}
use Rattle.std.proofs.lemmas.List.{append-nil, take-append-drop}
use Rattle.std.proofs.KnownBytes.{Appends-nil, Appends-trans}
use Rattle.std.specs.Io.KnownBytes.{Appends}
use Rattle.std.specs.declared.option.Option.{Option}
use Rattle.etp_outside.specs.Whole.{AppendsFront}
use Rattle.gathered_text.specs.Writing.{AppendsSome, Going}

pub going_start : (text gathered rest : List ℕ) (held : Option (List ℕ)) → text ≡ gathered ++ rest → Going text gathered rest held held
going_start text gathered rest held is = record { sent = []; written = Appends-nil held; whole = is }

-- nothing is written
pub nothing_written : (text : List ℕ) (held : Option (List ℕ)) → AppendsSome text held held
nothing_written text held = ([], text, refl, Appends-nil held)

module _ (text gathered rest : List ℕ) (h k : Option (List ℕ)) (g : Going text gathered rest h k) where
  -- no more is written
  pub going_cut : AppendsSome text h k
  going_cut = (g.sent, gathered ++ rest, g.whole, g.written)

  -- what was gathered is written
  pub going_sent : (l : Option (List ℕ)) → Appends k l gathered → Going text [] rest h l
  going_sent l more = record {
    sent = g.sent ++ gathered;
    written = Appends-trans h k l g.sent gathered g.written more;
    whole = g.whole ∙ sym (append_assoc g.sent gathered rest);
  }

  -- a prefix of it is written
  pub going_failed : (l : Option (List ℕ)) → AppendsFront k l gathered → AppendsSome text h l
  going_failed l front =
      let t : List ℕ = take front.0 gathered in
      let d : List ℕ = drop front.0 gathered in
      let parted : text ≡ g.sent ++ ((t ++ d) ++ rest) = g.whole ∙ ap (λ x. g.sent ++ (x ++ rest)) (sym (take-append-drop front.0 gathered)) in
      let joined : g.sent ++ ((t ++ d) ++ rest) ≡ (g.sent ++ t) ++ (d ++ rest) = ap (λ x. g.sent ++ x) (append_assoc t d rest) ∙ sym (append_assoc g.sent t (d ++ rest)) in
      (g.sent ++ t, d ++ rest, parted ∙ joined, Appends-trans h k l g.sent t g.written front.2)

-- a line is gathered
pub going_pushed : (text old new line rest : List ℕ) (h k : Option (List ℕ)) → new ≡ old ++ line → Going text old (line ++ rest) h k → Going text new rest h k
going_pushed text old new line rest h k is g = record {
  sent = g.sent;
  written = g.written;
  whole = g.whole ∙ ap (λ l. g.sent ++ l) (sym (append_assoc old line rest) ∙ ap (λ l. l ++ rest) (sym is));
}

-- all is written
pub going_end : (text gathered : List ℕ) (h k l : Option (List ℕ)) → Going text gathered [] h k → Appends k l gathered → Appends h l text
going_end text gathered h k l g more =
    let whole : text ≡ g.sent ++ gathered = g.whole ∙ ap (λ x. g.sent ++ x) (append-nil gathered) in
    subst (Appends h l) (sym whole) (Appends-trans h k l g.sent gathered g.written more)

-- another rest that is the same
pub going_as : (text gathered rest other : List ℕ) (h k : Option (List ℕ)) → other ≡ rest → Going text gathered rest h k → Going text gathered other h k
going_as text gathered rest other h k is g = subst (λ r. Going text gathered r h k) (sym is) g
