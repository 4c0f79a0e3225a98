-- A replay plays the frames that it takes.
use Rattle.std.proofs.Common.{◌≡◌, ℕ, Bool, true, false, List, [], ◌∷◌, ◌++◌, refl, ap, sym, ◌∙◌, subst, Option, None, Some, append_assoc, append-nil}
use Rattle.etp_capture.specs.Capture.{frames_bytes}
use Rattle.etp_capture.specs.Frames.{magic, frame_bytes}
use Rattle.etp_capture.specs.declared.frame.Frame.{Frame}
use Rattle.server_config.specs.declared.config.Config.{Config}
use Rattle.capture_run.specs.Form.{Takes}
use Rattle.capture_run.specs.Laws.{IsForward}
use Rattle.tool_forms.specs.Play.{World, Played, effect, first, next_played, happens, happens_to, play_from, play, world_after, is_refused}
use Rattle.tool_forms.specs.Plays.{Plays}
use Rattle.tool_forms.specs.Replay.{is_none, replay_plan, Leads}

play_from-append : (p : Played) (fs gs : List Frame) → play_from p (fs ++ gs) ≡ play_from (play_from p fs) gs
play_from-append p [] gs = refl
play_from-append p (f ∷ fs) gs = play_from-append (happens p f) fs gs

-- one more frame after frames that are played without a refusal
next : (w : World) (fs : List Frame) (f : Frame) → Leads fs w → play w.config (fs ++ f ∷ []) ≡ next_played (play w.config fs) (is_refused w f) f
next w fs f leads =
    let p : Played = play w.config fs in
    play_from-append (first w.config) fs (f ∷ []) ∙ ap (λ m. happens_to m p f) leads.accepted ∙ ap (λ (v : World). next_played p (is_refused v f) f) leads.world_is

-- the bytes of frames and of those after them
bytes_both : (xs ys : List Frame) → frames_bytes (xs ++ ys) ≡ frames_bytes xs ++ frames_bytes ys
bytes_both [] ys = refl
bytes_both (x ∷ xs) ys = ap (λ l. frame_bytes x ++ l) (bytes_both xs ys) ∙ sym (append_assoc (frame_bytes x) (frames_bytes xs) (frames_bytes ys))

-- what is written for a run is what was written before and what answers its last frame
written_more : (p q : List Frame) → magic ++ frames_bytes (p ++ q) ≡ (magic ++ frames_bytes p) ++ frames_bytes q
written_more p q = ap (λ l. magic ++ l) (bytes_both p q) ∙ sym (append_assoc magic (frames_bytes p) (frames_bytes q))

-- what playing a frame leaves is what taking it leaves
pub plays_takes : (refused : Bool) (old new : World) (f : Frame) (nothing answers : List Frame) (before after : List ℕ) → Plays refused old f new nothing answers → nothing ≡ [] → after ≡ before ++ frames_bytes answers
    → (fs : List Frame) → Leads fs old → Takes refused (replay_plan old.config) fs f (λ gs. Leads gs new) before after
plays_takes true old new f nothing answers before after plays nil is fs leads =
    let played = next old fs f leads ∙ ap (λ b. next_played (play old.config fs) b f) plays.0 in
    (ap (λ (p : Played). is_none p.refused) played, is ∙ ap (λ (l : List Frame). before ++ frames_bytes l) (plays.2 ∙ nil) ∙ append-nil before)
plays_takes false old new f nothing answers before after plays nil is fs leads =
    let p : Played = play old.config fs in
    let played = next old fs f leads ∙ ap (λ b. next_played p b f) plays.0 in
    let world : (play old.config (fs ++ f ∷ [])).world ≡ new = ap (λ (q : Played). q.world) played ∙ ap (λ (w : World). world_after w f) leads.world_is ∙ sym plays.1 in
    let config : old.config ≡ new.config = ap (λ (w : World). w.config) (sym plays.1) in
    let accepted : (play old.config (fs ++ f ∷ [])).refused ≡ None = ap (λ (q : Played). q.refused) played in (
      ap (λ (q : Played). is_none q.refused) played,
      record {
        world_is = subst (λ (c : Config). (play c (fs ++ f ∷ [])).world ≡ new) config world;
        accepted = subst (λ (c : Config). (play c (fs ++ f ∷ [])).refused ≡ None) config accepted;
      },
      (
        frames_bytes (effect old f).answers,
        is ∙ ap (λ (l : List Frame). before ++ frames_bytes l) (plays.2 ∙ ap (λ (l : List Frame). l ++ (effect old f).answers) nil),
        ap (λ (q : Played). magic ++ frames_bytes q.answers) played ∙ ap (λ (w : World). magic ++ frames_bytes (p.answers ++ (effect w f).answers)) leads.world_is ∙ written_more p.answers (effect old f).answers,
      ),
    )

-- ---- a frame that is refused stays so

refused_stays : (p : Played) (fs : List Frame) (o : ℕ) → p.refused ≡ Some o → (play_from p fs).refused ≡ Some o
refused_stays p [] o is = is
refused_stays p (f ∷ fs) o is = refused_stays (happens p f) fs o (ap (λ m. (happens_to m p f).refused) is ∙ is)

false_true : false ≡ true → ⊥
false_true e = cc

by_refusal : (m : Option ℕ) (p : Played) (gs : List Frame) → p.refused ≡ m → is_none (play_from p gs).refused ≡ true → is_none p.refused ≡ true
by_refusal None p gs is later = ap is_none is
by_refusal (Some o) p gs is later = absurd (false_true (sym (ap is_none (refused_stays p gs o is)) ∙ later))

pub replay_forward : (config : Config) → IsForward (replay_plan config)
replay_forward config fs f gs later =
    let parts : play config (fs ++ f ∷ gs) ≡ play_from (play config (fs ++ f ∷ [])) gs = ap (play config) (sym (append_assoc fs (f ∷ []) gs)) ∙ play_from-append (first config) (fs ++ f ∷ []) gs in
    by_refusal (play config (fs ++ f ∷ [])).refused (play config (fs ++ f ∷ [])) gs refl (ap (λ (p : Played). is_none p.refused) (sym parts) ∙ later)
