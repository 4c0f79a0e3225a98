-- One more line, and one more frame that is counted.
use Rattle.std.proofs.Common.{◌≡◌, ℕ, ◌+◌, if◌then◌else◌, Bool, true, false, List, [], ◌∷◌, ◌++◌, length, refl, ap, ap₂, sym, ◌∙◌, append_assoc, append-nil, length-append}
use Rattle.std.specs.Prelude.{filter}
use Rattle.std.proofs.lemmas.List.Elements.{filter-append}
use Rattle.etp_capture.specs.Capture.{end_at}
use Rattle.etp_capture.specs.declared.frame.Frame.{Frame}
use Rattle.capture_text.specs.Lines.{shown_line, checked_line, checked_of}
use Rattle.capture_text.specs.declared.counting.Counts.{Counts}
use Rattle.capture_text.specs.declared.checking.Checked.{Checked}
use Rattle.capture_run.specs.Form.{Takes}
use Rattle.capture_listing.specs.Listing.{lines, is_message, is_refused, counts_of, show_plan, check_plan, one_if, with_one}

lines-more : (line : ℕ → Frame → List ℕ) (at : ℕ) (fs : List Frame) (f : Frame) → lines line at (fs ++ f ∷ []) ≡ lines line at fs ++ line (end_at at fs) f
lines-more line at [] f = append-nil (line at f)
lines-more line at (x ∷ xs) f =
    ap (λ ls. line at x ++ ls) (lines-more line (at + (17 + length x.bytes)) xs f)
    ∙ sym (append_assoc (line at x) (lines line (at + (17 + length x.bytes)) xs) (line (end_at (at + (17 + length x.bytes)) xs) f))

-- the frame at an offset has its line there
line_at : (line : ℕ → Frame → List ℕ) (offset : ℕ) (fs : List Frame) (f : Frame) → end_at 8 fs ≡ offset → lines line 8 (fs ++ f ∷ []) ≡ lines line 8 fs ++ line offset f
line_at line offset fs f place = lines-more line 8 fs f ∙ ap (λ n. lines line 8 fs ++ line n f) place

-- ---- counts

kept-one : (t : Frame → Bool) (f : Frame) → length (filter t (f ∷ [])) ≡ one_if (t f)
kept-one t f = elim (t f) as (λ b. length (if b then f ∷ [] else []) ≡ one_if b) [ true ↦ refl | false ↦ refl ]

kept-more : (t : Frame → Bool) (fs : List Frame) (f : Frame) → length (filter t (fs ++ f ∷ [])) ≡ length (filter t fs) + one_if (t f)
kept-more t fs f = ap length (filter-append t fs (f ∷ [])) ∙ length-append (filter t fs) (filter t (f ∷ [])) ∙ ap (λ n. length (filter t fs) + n) (kept-one t f)

counts-more : (fs : List Frame) (f : Frame) → counts_of (fs ++ f ∷ []) ≡ with_one (counts_of fs) (checked_of f)
counts-more fs f =
    let frames : length (fs ++ f ∷ []) ≡ length fs + 1 = length-append fs (f ∷ []) in
    let messages = kept-more (λ x. is_message (checked_of x)) fs f in
    let refused = kept-more (λ x. is_refused (checked_of x)) fs f in
    λ i. record { frames = frames i; messages = messages i; refused = refused i }

-- ---- one more frame

pub shows_frame : (offset : ℕ) (f : Frame) (before after : List ℕ) → after ≡ before ++ shown_line offset f → (fs : List Frame) → end_at 8 fs ≡ offset → Takes false show_plan fs f (λ gs. Unit {0}) before after
shows_frame offset f before after is fs place = (refl, tt, (shown_line offset f, is, line_at shown_line offset fs f place))

pub checks_frame : (offset : ℕ) (f : Frame) (found : Checked) (old new : Counts) (before after : List ℕ) → found ≡ checked_of f → new ≡ with_one old found → after ≡ before ++ checked_line offset f
    → (fs : List Frame) → old ≡ counts_of fs → end_at 8 fs ≡ offset → Takes false check_plan fs f (λ gs. new ≡ counts_of gs) before after
checks_frame offset f found old new before after seen counted is fs counts place =
    (refl, counted ∙ ap₂ with_one counts seen ∙ sym (counts-more fs f), (checked_line offset f, is, line_at checked_line offset fs f place))
