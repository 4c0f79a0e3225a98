-- What is looked up in the rows of a store.
use Rattle.std.proofs.Common.{refl, ℕ, zero, suc, ◌≡◌, Bool, true, not, List, [], ◌∷◌, ap, sym, ◌∙◌, Option, Some, Ok}
use Rattle.std.specs.Prelude.{ℤ, pos, negsuc, slice_get, is_some}
use Rattle.channel_store.specs.declared.error.ChannelError.TheVariants.{NoChannel, Index, Doubled, Interval}
use Rattle.channel_store.specs.Channels.{Channel}
use Rattle.channel_store.specs.Points.{at_most, inside, past}
use Rattle.channel_store.specs.Rows.{Row}
use Rattle.channel_store.specs.Refusals.{channel_at, cut_refusal, in_range, is_listed, or_else, points_in, range_refusal, unless, verdict}
use Rattle.channel_store.specs.Store.{range_in, range_of, tail_in, tail_of}
use Rattle.channel_store.specs.Sweeps.{shown_of, shown_in, row_at}

get-shown : (rows : List Row) (k : ℕ) → slice_get (shown_of rows) k ≡ shown_in (slice_get rows k)
get-shown [] k = refl
get-shown (r ∷ rs) zero = refl
get-shown (r ∷ rs) (suc k) = get-shown rs k

pub channel_at-shown : (rows : List Row) (id : ℤ) → channel_at (shown_of rows) id ≡ shown_in (row_at rows id)
channel_at-shown rows (pos k) = get-shown rows k
channel_at-shown rows (negsuc k) = refl

there : (rows : List Row) (id : ℤ) (o : Option Row) → row_at rows id ≡ o → channel_at (shown_of rows) id ≡ shown_in o
there rows id o h = channel_at-shown rows id ∙ ap shown_in h

pub range-ok : (rows : List Row) (id from to : ℤ) (r : Row) → row_at rows id ≡ Some r → at_most from to ≡ true → range_of (shown_of rows) id from to ≡ Ok (inside from to r.shown.points)
range-ok rows id from to r h k =
    ap (λ o. range_in (range_refusal o id from to) (inside from to (points_in o))) (there rows id (Some r) h)
    ∙ ap (λ b. range_in (unless b Interval) (inside from to r.shown.points)) k

pub tail-ok : (rows : List Row) (id start : ℤ) (r : Row) → row_at rows id ≡ Some r → tail_of (shown_of rows) id start ≡ Ok (past start r.shown.points)
tail-ok rows id start r h = ap (λ o. tail_in o id start) (there rows id (Some r) h)

pub cut-is : (cs : List Channel) (earlier : List ℤ) (id end : ℤ) (known ranged listed : Bool) → is_some (channel_at cs id) ≡ known → in_range end ≡ ranged → is_listed earlier id ≡ listed
    → verdict (or_else (unless known (NoChannel id)) (or_else (unless ranged (Index id)) (unless (not listed) (Doubled id)))) ≡ verdict (cut_refusal cs earlier (id, end))
cut-is cs earlier id end known ranged listed h k l = (λ j. verdict (or_else (unless (sym h j) (NoChannel id)) (or_else (unless (sym k j) (Index id)) (unless (not (sym l j)) (Doubled id)))))
