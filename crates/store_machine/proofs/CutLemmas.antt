-- Truncations: those that are accepted are accepted again, and the channels refuse none of them; for the crates above too.
use Rattle.std.specs.Prelude.{ℕ, ℤ, Bool, true, false, not, ◌||◌, ◌≡◌, List, [], ◌∷◌, ◌++◌, Option, Some, None, is_some, length, map, zip, refl}
use Rattle.std.specs.Map.{keys_of, values_of}
use Rattle.std.proofs.Common.{ap, sym, ◌∙◌, append_assoc, append-nil, suc}
use Rattle.std.proofs.lemmas.List.Folds.{list_any-append}
use Rattle.std.proofs.lemmas.Bool.{or_parts}
use Rattle.channel_store.specs.declared.error.ChannelError.{ChannelError}
use Rattle.channel_store.specs.declared.error.ChannelError.TheVariants.{NoChannel, Index, Doubled}
use Rattle.channel_store.specs.Channels.{Channel}
use Rattle.std.specs.Ordering.{int_eq}
use Rattle.channel_store.specs.Refusals.{channel_at, cut_refusal, in_range, is_listed, or_else, truncate_refusal, unless}
use Rattle.store_machine.specs.declared.call.Cutting.{Cutting}
use Rattle.store_machine.specs.declared.call.Verdict.{Verdict}
use Rattle.store_machine.specs.Channels.{cut_of}
use Rattle.store_machine.specs.Cuts.{cut_verdict, cut_verdicts, cuts_accepted, unless_cut_refused}
use Rattle.store_machine.specs.Kept.{with_accepted}
use Rattle.store_machine.specs.Loads.{CutDrafting, TakesCut}

-- ---- fewer channels before

record Fewer (sub earlier : List ℤ) : Type 0 where
  lacks : (id : ℤ) → is_listed earlier id ≡ false → is_listed sub id ≡ false

joined : (a b : Bool) → a ≡ false → b ≡ false → (a || b) ≡ false
joined true b h k = absurd (cc)
joined false b h k = k

fewer-both : (sub earlier : List ℤ) (x : ℤ) → Fewer sub earlier → Fewer (sub ++ x ∷ []) (earlier ++ x ∷ [])
fewer-both sub earlier x f = record {
  lacks = λ id h.
      let parts = or_parts (is_listed earlier id) (is_listed (x ∷ []) id) (sym (list_any-append (int_eq id) earlier (x ∷ [])) ∙ h) in
      list_any-append (int_eq id) sub (x ∷ []) ∙ joined (is_listed sub id) (is_listed (x ∷ []) id) (f.lacks id parts.0) parts.1;
}

fewer-one : (sub earlier : List ℤ) (x : ℤ) → Fewer sub earlier → Fewer sub (earlier ++ x ∷ [])
fewer-one sub earlier x f = record {
  lacks = λ id h. f.lacks id (or_parts (is_listed earlier id) (is_listed (x ∷ []) id) (sym (list_any-append (int_eq id) earlier (x ∷ [])) ∙ h)).0;
}

fewer-same : (earlier : List ℤ) → Fewer earlier earlier
fewer-same earlier = record { lacks = λ id h. h }

-- what is not refused together with some channels is not refused together with fewer
tests : (a b c d : Bool) (e f g : ChannelError) → or_else (unless a e) (or_else (unless b f) (unless (not c) g)) ≡ None → (c ≡ false → d ≡ false)
    → or_else (unless a e) (or_else (unless b f) (unless (not d) g)) ≡ None
tests true true true d e f g h k = absurd (cc)
tests true true false d e f g h k = ap (λ x. unless (not x) g) (k refl)
tests true false c d e f g h k = absurd (cc)
tests false b c d e f g h k = absurd (cc)

refused-fewer : (cs : List Channel) (sub earlier : List ℤ) (c : Cutting) → Fewer sub earlier → cut_refusal cs earlier (cut_of c) ≡ None → cut_refusal cs sub (cut_of c) ≡ None
refused-fewer cs sub earlier c f h =
    tests (is_some (channel_at cs c.channel)) (in_range c.end) (is_listed earlier c.channel) (is_listed sub c.channel) (NoChannel c.channel) (Index c.channel) (Doubled c.channel) h (f.lacks c.channel)

-- ---- all cuts

again : (cs : List Channel) (sub earlier : List ℤ) (cuts : List Cutting) → Fewer sub earlier → cuts_accepted cs sub (cuts_accepted cs earlier cuts) ≡ cuts_accepted cs earlier cuts
again cs sub earlier [] f = refl
again cs sub earlier (c ∷ rest) f =
    by (cut_refusal cs earlier (cut_of c)) refl (again cs (sub ++ c.channel ∷ []) (earlier ++ c.channel ∷ []) rest (fewer-both sub earlier c.channel f)) (again cs sub (earlier ++ c.channel ∷ []) rest (fewer-one sub earlier c.channel f))
  where
    by : (r : Option ChannelError) → cut_refusal cs earlier (cut_of c) ≡ r
        → cuts_accepted cs (sub ++ c.channel ∷ []) (cuts_accepted cs (earlier ++ c.channel ∷ []) rest) ≡ cuts_accepted cs (earlier ++ c.channel ∷ []) rest
        → cuts_accepted cs sub (cuts_accepted cs (earlier ++ c.channel ∷ []) rest) ≡ cuts_accepted cs (earlier ++ c.channel ∷ []) rest
        → cuts_accepted cs sub (unless_cut_refused r c (cuts_accepted cs (earlier ++ c.channel ∷ []) rest)) ≡ unless_cut_refused r c (cuts_accepted cs (earlier ++ c.channel ∷ []) rest)
    by None e taken kept =
        ap (λ r. unless_cut_refused r c (cuts_accepted cs (sub ++ c.channel ∷ []) (cuts_accepted cs (earlier ++ c.channel ∷ []) rest))) (refused-fewer cs sub earlier c f e) ∙ ap (λ l. c ∷ l) taken
    by (Some why) e taken kept = kept

pub cuts-again : (cs : List Channel) (cuts : List Cutting) → cuts_accepted cs [] (cuts_accepted cs [] cuts) ≡ cuts_accepted cs [] cuts
cuts-again cs cuts = again cs [] [] cuts (fewer-same [])

unrefused : (cs : List Channel) (sub earlier : List ℤ) (cuts : List Cutting) → Fewer sub earlier → truncate_refusal cs sub (map cut_of (cuts_accepted cs earlier cuts)) ≡ None
unrefused cs sub earlier [] f = refl
unrefused cs sub earlier (c ∷ rest) f =
    by (cut_refusal cs earlier (cut_of c)) refl (unrefused cs (sub ++ c.channel ∷ []) (earlier ++ c.channel ∷ []) rest (fewer-both sub earlier c.channel f)) (unrefused cs sub (earlier ++ c.channel ∷ []) rest (fewer-one sub earlier c.channel f))
  where
    by : (r : Option ChannelError) → cut_refusal cs earlier (cut_of c) ≡ r
        → truncate_refusal cs (sub ++ c.channel ∷ []) (map cut_of (cuts_accepted cs (earlier ++ c.channel ∷ []) rest)) ≡ None
        → truncate_refusal cs sub (map cut_of (cuts_accepted cs (earlier ++ c.channel ∷ []) rest)) ≡ None
        → truncate_refusal cs sub (map cut_of (unless_cut_refused r c (cuts_accepted cs (earlier ++ c.channel ∷ []) rest))) ≡ None
    by None e taken kept = ap (λ r. or_else r (truncate_refusal cs (sub ++ c.channel ∷ []) (map cut_of (cuts_accepted cs (earlier ++ c.channel ∷ []) rest)))) (refused-fewer cs sub earlier c f e) ∙ taken
    by (Some why) e taken kept = kept

pub cuts-unrefused : (cs : List Channel) (cuts : List Cutting) → truncate_refusal cs [] (map cut_of (cuts_accepted cs [] cuts)) ≡ None
cuts-unrefused cs cuts = unrefused cs [] [] cuts (fewer-same [])

-- the channels paired with their ends
pub zip-cuts : (cuts : List Cutting) → zip (map (λ (c : Cutting). c.channel) cuts) (map (λ (c : Cutting). c.end) cuts) ≡ map cut_of cuts
zip-cuts [] = refl
zip-cuts (c ∷ cs) = ap (λ l. cut_of c ∷ l) (zip-cuts cs)

-- there are as many
pub lengths-cuts : (cuts : List Cutting) → length (map (λ (c : Cutting). c.channel) cuts) ≡ length (map (λ (c : Cutting). c.end) cuts)
lengths-cuts [] = refl
lengths-cuts (c ∷ cs) = ap suc (lengths-cuts cs)

-- the verdicts are under the names of the items
pub names-cuts : (cs : List Channel) (earlier : List ℤ) (items : List (List ℕ × Cutting)) → keys_of (cut_verdicts cs earlier items) ≡ keys_of items
names-cuts cs earlier [] = refl
names-cuts cs earlier (i ∷ is) = ap (λ l. i.0 ∷ l) (names-cuts cs (earlier ++ i.1.channel ∷ []) is)

-- ---- cuts in progress

pub cutting-first : (cs : List Channel) (rest all : List (List ℕ × Cutting)) (given : List (List ℕ × Verdict)) (taken : List Cutting) (named : List ℤ)
    → rest ≡ all → given ≡ [] → taken ≡ [] → named ≡ [] → CutDrafting cs rest all given taken named
cutting-first cs rest all given taken named whole g k n = record {
  verdicts = λ j. g j ++ cut_verdicts cs (n j) (whole j);
  items = λ j. k j ++ cuts_accepted cs (n j) (values_of (whole j));
}

kept-or-not : (r : Option ChannelError) (taken : List Cutting) (c : Cutting) (rest : List Cutting) → with_accepted (cut_verdict r) taken c ++ rest ≡ taken ++ unless_cut_refused r c rest
kept-or-not None taken c rest = append_assoc taken (c ∷ []) rest
kept-or-not (Some e) taken c rest = refl

pub cutting-step : (cs : List Channel) (name : List ℕ) (c : Cutting) (rest all : List (List ℕ × Cutting)) (given given' : List (List ℕ × Verdict)) (taken taken' : List Cutting) (named named' : List ℤ)
    → CutDrafting cs ((name, c) ∷ rest) all given taken named → TakesCut cs name c given given' taken taken' named named' → CutDrafting cs rest all given' taken' named'
cutting-step cs name c rest all given given' taken taken' named named' d s =
    let r = cut_refusal cs named (cut_of c) in
    record {
      verdicts = (λ j. s.told j ++ cut_verdicts cs (s.names j) rest) ∙ append_assoc given ((name, cut_verdict r) ∷ []) (cut_verdicts cs (named ++ c.channel ∷ []) rest) ∙ d.verdicts;
      items = (λ j. s.item j ++ cuts_accepted cs (s.names j) (values_of rest)) ∙ kept-or-not r taken c (cuts_accepted cs (named ++ c.channel ∷ []) (values_of rest)) ∙ d.items;
    }

pub cut-noted : (cs : List Channel) (name : List ℕ) (c : Cutting) (given given' : List (List ℕ × Verdict)) (taken taken' : List Cutting) (named named' earlier : List ℤ) (v : Verdict)
    → earlier ≡ named → v ≡ cut_verdict (cut_refusal cs earlier (cut_of c)) → given' ≡ given ++ (name, v) ∷ [] → taken' ≡ with_accepted v taken c → named' ≡ named ++ c.channel ∷ []
    → TakesCut cs name c given given' taken taken' named named'
cut-noted cs name c given given' taken taken' named named' earlier v same judged g k n =
    let is : v ≡ cut_verdict (cut_refusal cs named (cut_of c)) = judged ∙ ap (λ l. cut_verdict (cut_refusal cs l (cut_of c))) same in
    record {
      told = g ∙ ap (λ w. given ++ (name, w) ∷ []) is;
      item = k ∙ ap (λ w. with_accepted w taken c) is;
      names = n;
    }

pub cutting-end : (cs : List Channel) (rest all : List (List ℕ × Cutting)) (given : List (List ℕ × Verdict)) (taken : List Cutting) (named : List ℤ)
    → rest ≡ [] → CutDrafting cs rest all given taken named → (given ≡ cut_verdicts cs [] all) × (taken ≡ cuts_accepted cs [] (values_of all))
cutting-end cs rest all given taken named none d = (
  sym (append-nil given) ∙ ap (λ l. given ++ cut_verdicts cs named l) (sym none) ∙ d.verdicts,
  sym (append-nil taken) ∙ ap (λ l. taken ++ cuts_accepted cs named (values_of l)) (sym none) ∙ d.items,
)
