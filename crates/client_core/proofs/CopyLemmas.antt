-- A channel's copy, step by step.
use Rattle.std.specs.Prelude.{◌≡◌, ℤ, Bool, true, false, not, List, [], ◌∷◌, ◌++◌, Option, Some, None, option_map, filter, fold, cond, refl, if◌then◌else◌}
use Rattle.std.specs.List.{find, flat_map, list_any}
use Rattle.std.specs.Ordering.{int_eq}
use Rattle.std.proofs.Common.{ap, sym, ◌∙◌}
use Rattle.std.proofs.lemmas.Bool.{false≢true}
use Rattle.std.proofs.lemmas.List.Sums.{fold-append}
use Rattle.etp_values.proofs.IntLemmas.{int_eq_is, int_eq_self}
use Rattle.etp_values.specs.declared.point.Point.{Point}
use Rattle.channel_store.specs.Points.{after, copy}
use Rattle.channel_store.specs.declared.change.What.{What}
use Rattle.channel_store.specs.declared.copy.ChangeMsg.{ChangeMsg}
use Rattle.client_core.specs.Answers.{subscribed}
use Rattle.client_core.specs.Laws.{change_of}
use Rattle.client_core.specs.Notices.{copy_in, follow_all, followed, follows, stop, stopped}
use Rattle.client_core.specs.declared.state.Channel.{Channel}

-- ---- one channel more or less

-- a channel in front: it is the one that is looked for, or another
found : (c : ℤ) (f : Channel) (fs : List Channel) → int_eq f.id c ≡ true → copy_in c (f ∷ fs) ≡ Some f.copy
found c f fs is = ap (λ b. option_map (λ (g : Channel). g.copy) (cond b (Some f) (find (λ g. int_eq g.id c) fs))) is

passed : (c : ℤ) (f : Channel) (fs : List Channel) → int_eq f.id c ≡ false → copy_in c (f ∷ fs) ≡ copy_in c fs
passed c f fs is = ap (λ b. option_map (λ (g : Channel). g.copy) (cond b (Some f) (find (λ g. int_eq g.id c) fs))) is

-- ---- subscriptions that end

stop_keeps : (ids : List ℤ) (f : Channel) → ((stop ids f).id ≡ f.id) × ((stop ids f).copy ≡ f.copy)
stop_keeps ids f = by (list_any (λ id. int_eq id f.id) ids)
  where
    by : (b : Bool) → ((if b then record f { live = false } else f).id ≡ f.id) × ((if b then record f { live = false } else f).copy ≡ f.copy)
    by true = (refl, refl)
    by false = (refl, refl)

pub stopped_keeps : (c : ℤ) (ids : List ℤ) (fs : List Channel) → copy_in c (stopped ids fs) ≡ copy_in c fs
stopped_keeps c ids [] = refl
stopped_keeps c ids (f ∷ fs) = by (int_eq f.id c) refl (stopped_keeps c ids fs)
  where
    by : (b : Bool) → int_eq f.id c ≡ b → copy_in c (stopped ids fs) ≡ copy_in c fs → copy_in c (stop ids f ∷ stopped ids fs) ≡ copy_in c (f ∷ fs)
    by true e rest =
        found c (stop ids f) (stopped ids fs) (ap (λ id. int_eq id c) (stop_keeps ids f).0 ∙ e)
        ∙ ap Some (stop_keeps ids f).1
        ∙ sym (found c f fs e)
    by false e rest =
        passed c (stop ids f) (stopped ids fs) (ap (λ id. int_eq id c) (stop_keeps ids f).0 ∙ e)
        ∙ rest
        ∙ sym (passed c f fs e)

-- ---- changes

followed_id : (x : ChangeMsg) (f : Channel) → (followed x f).id ≡ f.id
followed_id x f = by (int_eq f.id x.channel)
  where
    by : (b : Bool) → (if b then record f { copy = after f.copy x.what } else f).id ≡ f.id
    by true = refl
    by false = refl

-- a change of the channel, and of another
followed_own : (c : ℤ) (x : ChangeMsg) (f : Channel) → int_eq f.id c ≡ true → (followed x f).copy ≡ fold after f.copy (change_of c x)
followed_own c x f own = by (int_eq f.id x.channel) (int_eq x.channel c) refl refl
  where
    by : (a b : Bool) → int_eq f.id x.channel ≡ a → int_eq x.channel c ≡ b
        → (if a then record f { copy = after f.copy x.what } else f).copy ≡ fold after f.copy (if b then x.what ∷ [] else [])
    by true true ea eb = refl
    by false false ea eb = refl
    by true false ea eb = absurd (false≢true (sym eb ∙ ap (λ z. int_eq z c) (sym (int_eq_is f.id x.channel ea)) ∙ own))
    by false true ea eb = absurd (false≢true (sym ea ∙ ap (λ z. int_eq f.id z) (int_eq_is x.channel c eb) ∙ own))

follows_one : (c : ℤ) (x : ChangeMsg) (fs : List Channel) → copy_in c (follows fs x) ≡ option_map (λ ps. fold after ps (change_of c x)) (copy_in c fs)
follows_one c x [] = refl
follows_one c x (f ∷ fs) = by (int_eq f.id c) refl (follows_one c x fs)
  where
    by : (b : Bool) → int_eq f.id c ≡ b → copy_in c (follows fs x) ≡ option_map (λ ps. fold after ps (change_of c x)) (copy_in c fs)
        → copy_in c (followed x f ∷ follows fs x) ≡ option_map (λ ps. fold after ps (change_of c x)) (copy_in c (f ∷ fs))
    by true e rest =
        found c (followed x f) (follows fs x) (ap (λ id. int_eq id c) (followed_id x f) ∙ e)
        ∙ ap Some (followed_own c x f e)
        ∙ ap (option_map (λ ps. fold after ps (change_of c x))) (sym (found c f fs e))
    by false e rest =
        passed c (followed x f) (follows fs x) (ap (λ id. int_eq id c) (followed_id x f) ∙ e)
        ∙ rest
        ∙ ap (option_map (λ ps. fold after ps (change_of c x))) (sym (passed c f fs e))

map_twice : (f g h : List Point → List Point) → ((ps : List Point) → g (f ps) ≡ h ps) → (t : Option (List Point)) → option_map g (option_map f t) ≡ option_map h t
map_twice f g h same None = refl
map_twice f g h same (Some ps) = ap Some (same ps)

pub follows_all : (c : ℤ) (xs : List ChangeMsg) (fs : List Channel) → copy_in c (follow_all fs xs) ≡ option_map (λ ps. fold after ps (flat_map (change_of c) xs)) (copy_in c fs)
follows_all c [] fs = same (copy_in c fs)
  where
    same : (t : Option (List Point)) → t ≡ option_map (λ ps. ps) t
    same None = refl
    same (Some ps) = refl
follows_all c (x ∷ xs) fs =
    follows_all c xs (follows fs x)
    ∙ ap (option_map (λ ps. fold after ps (flat_map (change_of c) xs))) (follows_one c x fs)
    ∙ map_twice (λ ps. fold after ps (change_of c x)) (λ ps. fold after ps (flat_map (change_of c) xs)) (λ ps. fold after ps (flat_map (change_of c) (x ∷ xs)))
    (λ ps. sym (fold-append after ps (change_of c x) (flat_map (change_of c) xs))) (copy_in c fs)

-- the copy of changes, and of more
pub copy_more : (ws : List What) (t : Option (List What)) → option_map (λ ps. fold after ps ws) (option_map copy t) ≡ option_map copy (option_map (λ vs. vs ++ ws) t)
copy_more ws None = refl
copy_more ws (Some vs) = ap Some (sym (fold-append after [] vs ws))

-- ---- a channel that is subscribed

others_keep : (c channel : ℤ) (fs : List Channel) → int_eq channel c ≡ false → (last : Channel) → last.id ≡ channel
    → copy_in c (filter (λ f. not (int_eq f.id channel)) fs ++ last ∷ []) ≡ copy_in c fs
others_keep c channel [] other last is = passed c last [] (ap (λ id. int_eq id c) is ∙ other)
others_keep c channel (f ∷ fs) other last is = by (int_eq f.id channel) (int_eq f.id c) refl refl (others_keep c channel fs other last is)
  where
    by : (a b : Bool) → int_eq f.id channel ≡ a → int_eq f.id c ≡ b → copy_in c (filter (λ f. not (int_eq f.id channel)) fs ++ last ∷ []) ≡ copy_in c fs
        → copy_in c (cond (not a) (f ∷ filter (λ f. not (int_eq f.id channel)) fs) (filter (λ f. not (int_eq f.id channel)) fs) ++ last ∷ []) ≡ copy_in c (f ∷ fs)
    by true true ea eb rest = absurd (false≢true (sym other ∙ ap (λ z. int_eq z c) (sym (int_eq_is f.id channel ea)) ∙ eb))
    by true false ea eb rest = rest ∙ sym (passed c f fs eb)
    by false true ea eb rest = found c f _ eb ∙ sym (found c f fs eb)
    by false false ea eb rest = passed c f _ eb ∙ rest ∙ sym (passed c f fs eb)

own_last : (c : ℤ) (fs : List Channel) (last : Channel) → int_eq last.id c ≡ true → copy_in c (filter (λ f. not (int_eq f.id c)) fs ++ last ∷ []) ≡ Some last.copy
own_last c [] last is = found c last [] is
own_last c (f ∷ fs) last is = by (int_eq f.id c) refl (own_last c fs last is)
  where
    by : (a : Bool) → int_eq f.id c ≡ a → copy_in c (filter (λ f. not (int_eq f.id c)) fs ++ last ∷ []) ≡ Some last.copy
        → copy_in c (cond (not a) (f ∷ filter (λ f. not (int_eq f.id c)) fs) (filter (λ f. not (int_eq f.id c)) fs) ++ last ∷ []) ≡ Some last.copy
    by true e rest = rest
    by false e rest = passed c f _ e ∙ rest

-- the copy of a channel, if one was subscribed to
pub subscribed_copy : (c channel : ℤ) (fs : List Channel) (b : Bool) → int_eq channel c ≡ b → copy_in c (subscribed channel fs) ≡ (if b then Some [] else copy_in c fs)
subscribed_copy c channel fs true is =
    ap (λ z. copy_in c (subscribed z fs)) (int_eq_is channel c is) ∙ own_last c fs (record { id = c; live = true; copy = [] }) (int_eq_self c)
subscribed_copy c channel fs false is = others_keep c channel fs is (record { id = channel; live = true; copy = [] }) refl
