-- A load while it is played, and its summary.
use Rattle.std.proofs.Common.{◌≡◌, ℕ, ◌+◌, ◌*◌, ◌^◌, ◌<◌, ◌≤◌, Bool, true, false, not, List, [], ◌∷◌, ◌++◌, length, suc, zero, refl, ap, ap₂, sym, ◌∙◌, subst, arith, Option, None, Some, Result, Ok, Err, IfOk}
use Rattle.std.proofs.lemmas.Bool.{false≢true}
use Rattle.etp_capture.specs.declared.frame.Frame.{Frame}
use Rattle.generator.specs.Channels.{generator_config}
use Rattle.generator.specs.Generator.{frames, frames_from, next_number}
use Rattle.load_forms.specs.Summary.{summary_lines}
use Rattle.load_forms.specs.Tally.{nothing_sent, plus, tally, HasRoom}
use Rattle.load_forms.specs.declared.tally.Tally.{Tally}
use Rattle.load_forms.proofs.TallyLemmas.{plus_nothing, tally_append}
use Rattle.tool_forms.specs.Play.{World, Played, effect, first, first_world, is_refused, world_after, happens, happens_to, next_played, play, play_from}
use Rattle.tool_forms.specs.Plays.{Plays}
use Rattle.tool_forms.specs.Replay.{is_none}
use Rattle.tool_forms.specs.Summary.{summary}
use Rattle.tool_forms.specs.Loads.{IsAt, CameTo}

-- ---- one frame

goes : (m : Option ℕ) → is_none m ≡ true → m ≡ None
goes None is = refl
goes (Some o) is = absurd (false≢true is)

-- what happens to a run that continues
happens_is : (p : Played) (f : Frame) (w : World) (b : Bool) → p.refused ≡ None → p.world ≡ w → is_refused w f ≡ b → happens p f ≡ next_played p b f
happens_is p f w b going world is =
    ap (λ (m : Option ℕ). happens_to m p f) going ∙ ap (λ (v : World). next_played p (is_refused v f) f) world ∙ ap (λ (r : Bool). next_played p r f) is

-- its answers were counted
pub one_counted : (refused : Bool) (p : Played) (f : Frame) (old new : World) (nothing answers : List Frame) (before now : Tally) → nothing ≡ [] → Plays refused old f new nothing answers
    → now ≡ plus before (tally answers) → IsAt p true old before → IsAt (happens p f) (not refused) new now
one_counted true p f old new nothing answers before now nil plays count at =
    let none : answers ≡ [] = plays.2 ∙ nil in
    let same : now ≡ tally p.answers = count ∙ ap (λ (l : List Frame). plus before (tally l)) none ∙ plus_nothing before ∙ at.tally_is in
    subst (λ (q : Played). IsAt q false new now) (sym (happens_is p f old true (goes p.refused at.goes_is) at.world_is plays.0))
    (record { world_is = at.world_is ∙ sym plays.1; tally_is = same; goes_is = refl })
one_counted false p f old new nothing answers before now nil plays count at =
    let world : world_after p.world f ≡ new = ap (λ (w : World). world_after w f) at.world_is ∙ sym plays.1 in
    let more : answers ≡ (effect old f).answers = plays.2 ∙ ap (λ (l : List Frame). l ++ (effect old f).answers) nil in
    let there : answers ≡ (effect p.world f).answers = more ∙ ap (λ (w : World). (effect w f).answers) (sym at.world_is) in
    let all : now ≡ tally (p.answers ++ (effect p.world f).answers) =
    count ∙ ap₂ (λ (t : Tally) (l : List Frame). plus t (tally l)) at.tally_is there ∙ sym (tally_append p.answers (effect p.world f).answers) in
    subst (λ (q : Played). IsAt q true new now) (sym (happens_is p f old false (goes p.refused at.goes_is) at.world_is plays.0))
    (record { world_is = world; tally_is = all; goes_is = refl })

-- ---- frames

stops : (m : Option ℕ) (p : Played) (fs : List Frame) → p.refused ≡ m → is_none m ≡ false → play_from p fs ≡ p
stops None p fs is none = absurd (false≢true (sym none))
stops (Some o) p [] is none = refl
stops (Some o) p (f ∷ fs) is none =
    let here : happens p f ≡ p = ap (λ (m : Option ℕ). happens_to m p f) is in
    ap (λ (q : Played). play_from q fs) here ∙ stops (Some o) p fs is none

-- after a refused frame nothing happens
pub stopped : (p : Played) (fs : List Frame) (w : World) (t : Tally) → IsAt p false w t → play_from p fs ≡ p
stopped p fs w t at = stops p.refused p fs refl at.goes_is

-- the second of two, of which the first is refused
pub stays_refused : (p : Played) (f g : Frame) (w : World) (t : Tally) (refused : Bool) → refused ≡ true → IsAt (happens p f) (not refused) w t → IsAt (play_from p (f ∷ g ∷ [])) (not refused) w t
stays_refused p f g w t refused is at =
    let here : IsAt (happens p f) false w t = subst (λ (b : Bool). IsAt (happens p f) (not b) w t) is at in
    subst (λ (q : Played). IsAt q (not refused) w t) (sym (stopped (happens p f) (g ∷ []) w t here)) at

-- the second of two, of which the first was not refused
pub second_counted : {A E : Type 0} (refused_of : A → Bool) (tally_of : A → Tally) (r : Result A E) (f g : Frame) (old mid new : World) (before between : Tally)
    → ((p : Played) → IsAt p true old before → IsAt (happens p f) true mid between)
    → IfOk r (λ a. (p : Played) → IsAt p true mid between → IsAt (happens p g) (not (refused_of a)) new (tally_of a))
    → IfOk r (λ a. (p : Played) → IsAt p true old before → IsAt (happens (happens p f) g) (not (refused_of a)) new (tally_of a))
second_counted refused_of tally_of (Ok a) f g old mid new before between first second = λ p at. second (happens p f) (first p at)
second_counted refused_of tally_of (Err e) f g old mid new before between first second = tt

-- what is left of a load, after what was played of it
abbrev pub Left : Played → World → Tally → List Frame → Played → Type 0
Left p w t left end = (q : Played) × IsAt q true w t × (play_from q left ≡ end)

module _ (w v : World) (t u : Tally) (a b : Frame) (old new : List Frame) (end p : Played) where
  -- two more were played
  pub left_more : old ≡ a ∷ b ∷ new → ((q : Played) → IsAt q true w t → IsAt (play_from q (a ∷ b ∷ [])) true v u) → Left p w t old end → Left p v u new end
  left_more two step left = (
    play_from left.0 (a ∷ b ∷ []),
    step left.0 left.1,
    ap (play_from left.0) (sym two) ∙ left.2,
  )

  -- one of two was refused
  pub left_refused : old ≡ a ∷ b ∷ new → ((q : Played) → IsAt q true w t → IsAt (play_from q (a ∷ b ∷ [])) false v u) → Left p w t old end → CameTo end v u
  left_refused two step left =
      let q : Played = play_from left.0 (a ∷ b ∷ []) in
      let at : IsAt q false v u = step left.0 left.1 in
      let here : q ≡ end = sym (stopped q new v u at) ∙ ap (play_from left.0) (sym two) ∙ left.2 in
      subst (λ (x : Played). CameTo x v u) here (record { world_is = at.world_is; tally_is = at.tally_is; goes_is = refl })

-- all were played
pub left_none : (w : World) (t : Tally) (left : List Frame) (end p : Played) → left ≡ [] → Left p w t left end → CameTo end w t
left_none w t left end p none rest =
    let here : rest.0 ≡ end = sym (ap (play_from rest.0) none) ∙ rest.2 in
    subst (λ (x : Played). CameTo x w t) here (record { world_is = rest.1.world_is; tally_is = rest.1.tally_is; goes_is = refl })

-- ---- the room for what is counted

long : (x j k : ℕ) → length (frames_from x j k) ≡ 2 * k
long x j zero = refl
long x j (suc k) = let more = long (next_number x) (j + 1) k in omega (arith, more)

room_of : (n size : ℕ) → n ≡ 2 * size → size < 2 ^ 32 → 0 + n * 2 ^ 64 < 2 ^ 128
room_of n size is small = omega (arith, is, small)

-- before the first frame
pub room_first : (size : ℕ) (left : List Frame) → size < 2 ^ 32 → left ≡ frames size → HasRoom (length left) nothing_sent
room_first size left small is =
    let many : length left ≡ 2 * size = ap length is ∙ long size 0 size in
    (room_of (length left) size many small, room_of (length left) size many small)

fewer : (a n m : ℕ) → n ≡ suc (suc m) → a + n * 2 ^ 64 < 2 ^ 128 → a + (m + 1 + 1) * 2 ^ 64 < 2 ^ 128
fewer a n m is room = omega (arith, is, room)

-- before two more
pub room_two : (t : Tally) (a b : Frame) (old new : List Frame) → old ≡ a ∷ b ∷ new → HasRoom (length old) t → HasRoom (length new + 1 + 1) t
room_two t a b old new two room = (fewer t.sent (length old) (length new) (ap length two) room.0, fewer t.changes (length old) (length new) (ap length two) room.1)

least : (a n m : ℕ) → m ≤ n → a + n * 2 ^ 64 < 2 ^ 128 → a + m * 2 ^ 64 < 2 ^ 128
least a n m less room = omega (arith, less, room)

-- room for some is room for fewer
pub room_less : (t : Tally) (n m : ℕ) → m ≤ n → HasRoom n t → HasRoom m t
room_less t n m less room = (least t.sent n m less room.0, least t.changes n m less room.1)

-- after the second of two
pub second_room : {A E : Type 0} (tally_of : A → Tally) (r : Result A E) (before between : Tally) → ((n : ℕ) → HasRoom (n + 1) before → HasRoom n between)
    → IfOk r (λ a. (n : ℕ) → HasRoom (n + 1) between → HasRoom n (tally_of a)) → IfOk r (λ a. (n : ℕ) → HasRoom (n + 1 + 1) before → HasRoom n (tally_of a))
second_room tally_of (Ok a) before between first second = λ n room. second n (first (n + 1) room)
second_room tally_of (Err e) before between first second = tt

-- ---- the summary

pub first_at : (player : World) → player ≡ first_world generator_config → IsAt (first generator_config) true player nothing_sent
first_at player is = record { world_is = sym is; tally_is = refl; goes_is = refl }

-- the lines that were made of what was counted and of the world that was left
pub summary_is : (size entries : ℕ) (t : Tally) (now : World) (old text : List ℕ) → CameTo (play generator_config (frames size)) now t → entries ≡ length now.journal → old ≡ []
    → text ≡ old ++ summary_lines size entries t → text ≡ summary size
unfolding summary
summary_is size entries t now old text came count none is =
    let long : entries ≡ length (play generator_config (frames size)).world.journal = count ∙ ap (λ (w : World). length w.journal) (sym came.world_is) in
    is ∙ ap (λ (l : List ℕ). l ++ summary_lines size entries t) none ∙ ap₂ (λ (e : ℕ) (u : Tally). summary_lines size e u) long came.tally_is
