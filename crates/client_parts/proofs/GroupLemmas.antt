-- Points by their channels.
use Rattle.std.specs.Prelude.{◌≡◌, ◌<◌, ◌≤◌, ◌+◌, ℕ, ℤ, pos, Bool, true, false, ◌||◌, List, [], ◌∷◌, ◌++◌, Option, Some, None, option_map, map, cond, drop, length, refl, if◌then◌else◌}
use Rattle.std.specs.List.{list_all, list_any}
use Rattle.std.specs.Option.{unwrap_or}
use Rattle.std.specs.Ordering.{int_eq}
use Rattle.std.proofs.Common.{add-one, ap, append-nil, append_assoc, drop-cons, get_or, sym, ◌∙◌}
use Rattle.std.proofs.lemmas.List.{drop_all}
use Rattle.std.proofs.lemmas.Bool.{or_right}
use Rattle.etp_values.proofs.IntLemmas.{int_eq_self}
use Rattle.etp_values.specs.declared.point.ChannelPoint.{ChannelPoint}
use Rattle.etp_values.specs.declared.point.Point.{Point}
use Rattle.channel_store.specs.declared.copy.ChangeMsg.{ChangeMsg}
use Rattle.msg_channel.specs.declared.indexes.IndexInterval.{IndexInterval}
use Rattle.client_parts.specs.Changes.{is_listed, of_channel, replaced, replaced_by, replacements}
use Rattle.client_parts.specs.Grouping.{group}

abbrev among : List ℤ → ℤ → Bool
among channels q = list_any (λ c. int_eq c q) channels

here : (ids : List ℤ) (n : ℕ) → n < length ids → drop n ids ≡ get_or ids n (pos 0) ∷ drop (n + 1) ids
here ids n within = drop-cons ids n (pos 0) within ∙ ap (λ k. get_or ids n (pos 0) ∷ drop k ids) (sym (add-one n))

-- ---- a group for each channel that is listed

both : (a b : Bool) (o : Option (List Point)) → cond b (Some []) (cond a (Some []) o) ≡ cond (a || b) (Some []) o
both true true o = refl
both true false o = refl
both false b o = refl

-- one more channel has its group
pub listed_more : (ids : List ℤ) (n : ℕ) (q k : ℤ) (v : List Point) (before after whole : Option (List Point)) → n < length ids → after ≡ cond (int_eq k q) (Some v) before → k ≡ get_or ids n (pos 0) → v ≡ []
    → cond (list_any (λ x. int_eq x q) (drop n ids)) (Some []) before ≡ whole → cond (list_any (λ x. int_eq x q) (drop (n + 1) ids)) (Some []) after ≡ whole
listed_more ids n q k v before after whole within put key empty so_far =
    ap (λ t. cond (among (drop (n + 1) ids) q) (Some []) t) (put ∙ (λ j. cond (int_eq (key j) q) (Some (empty j)) before))
    ∙ both (int_eq (get_or ids n (pos 0)) q) (among (drop (n + 1) ids) q) before
    ∙ ap (λ l. cond (among l q) (Some []) before) (sym (here ids n within))
    ∙ so_far

-- no points are left
pub points_done : (q : ℤ) (items : List ChannelPoint) (o whole : Option (List Point)) → items ≡ [] → option_map (λ ps. ps ++ of_channel q items) o ≡ whole → o ≡ whole
points_done q items o whole end so_far = by o ∙ ap (λ l. option_map (λ ps. ps ++ of_channel q l) o) (sym end) ∙ so_far
  where
    by : (t : Option (List Point)) → t ≡ option_map (λ ps. ps ++ []) t
    by None = refl
    by (Some ps) = ap Some (sym (append-nil ps))

-- ---- a change for each channel

all_from : (f g : ℤ → ChangeMsg) (cs : List ℤ) → ((q : ℤ) → among cs q ≡ true → f q ≡ g q) → map f cs ≡ map g cs
all_from f g [] same = refl
all_from f g (c ∷ cs) same =
    ap (λ x. x ∷ map f cs) (same c (ap (λ b. b || among cs c) (int_eq_self c)))
    ∙ ap (λ l. g c ∷ l) (all_from f g cs (λ q h. same q (or_right (int_eq c q) (among cs q) h)))

replaced_all : (i : IndexInterval) (channels : List ℤ) (points : List ChannelPoint) (at : ℤ → Option (List Point)) → ((q : ℤ) → at q ≡ group channels points q)
    → map (λ c. replaced_by i (unwrap_or (at c) []) c) channels ≡ map (replaced i points) channels
replaced_all i channels points at groups =
    all_from (λ c. replaced_by i (unwrap_or (at c) []) c) (replaced i points) channels
    (λ q there. ap (λ t. replaced_by i (unwrap_or t []) q) (groups q ∙ ap (λ b. cond b (Some (of_channel q points)) None) there))

-- one more channel has its change
pub changes_more : (f : ℤ → ChangeMsg) (ids : List ℤ) (n : ℕ) (k : ℤ) (x : ChangeMsg) (before after whole : List ChangeMsg) → n < length ids → after ≡ before ++ x ∷ [] → x ≡ f k → k ≡ get_or ids n (pos 0)
    → before ++ map f (drop n ids) ≡ whole → after ++ map f (drop (n + 1) ids) ≡ whole
changes_more f ids n k x before after whole within pushed is key so_far =
    ap (λ l. l ++ map f (drop (n + 1) ids)) (pushed ∙ ap (λ y. before ++ y ∷ []) (is ∙ ap f key))
    ∙ append_assoc before (f (get_or ids n (pos 0)) ∷ []) (map f (drop (n + 1) ids))
    ∙ ap (λ l. before ++ map f l) (sym (here ids n within))
    ∙ so_far

pub changes_done : (f : ℤ → ChangeMsg) (ids : List ℤ) (n : ℕ) (before whole : List ChangeMsg) → length ids ≤ n → before ++ map f (drop n ids) ≡ whole → before ≡ whole
changes_done f ids n before whole end so_far = sym (append-nil before) ∙ ap (λ l. before ++ map f l) (sym (drop_all n ids end)) ∙ so_far

-- if each point is of a channel that is listed
pub replaced_so : (i : IndexInterval) (channels : List ℤ) (points : List ChannelPoint) (at : ℤ → Option (List Point)) (changes : List ChangeMsg) → true ≡ list_all (is_listed channels) points
    → ((q : ℤ) → at q ≡ group channels points q) → changes ≡ map (λ c. replaced_by i (unwrap_or (at c) []) c) channels → Some changes ≡ replacements channels i (Some points)
replaced_so i channels points at changes all groups made =
    ap Some (made ∙ replaced_all i channels points at groups) ∙ ap (λ b. if b then Some (map (replaced i points) channels) else None) all
