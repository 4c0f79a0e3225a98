-- The news of a poll: each subscription is sent more of its stream, or all are stopped.
use Rattle.std.specs.Prelude.{ℕ, ℤ, pos, List, [], ◌∷◌, ◌++◌, ◌≡◌, ◌+◌, ◌≤◌, ◌<◌, min, Option, Some, None, map, take, drop, length, refl}
use Rattle.std.specs.List.{flat_map}
use Rattle.std.proofs.Common.{ap, sym, ◌∙◌, arith, length-take}
use Rattle.subscribe_core.proofs.StreamLemmas.{told-stream, told-silent}
use Rattle.server_config.specs.declared.config.Config.{Config}
use Rattle.channel_rows.specs.Notices.{notice}
use Rattle.channel_store.specs.Channels.{whats_of}
use Rattle.channel_store.specs.Points.{view}
use Rattle.channel_store.specs.declared.change.ChannelChange.{ChannelChange}
use Rattle.channel_store.specs.declared.subscription.Sub.{Sub}
use Rattle.etp_frame.specs.declared.message.Message.TheVariants as message
use Rattle.store_machine.specs.Channels.{changes_from}
use Rattle.store_machine.specs.Laws.{NewsAreTheDue, NewsOfEach, NewsStayWithin}
use Rattle.store_machine.specs.News.{dues, joined, taken}
use Rattle.store_machine.specs.declared.journal.Entry.{Entry}
use Rattle.subscribe_core.specs.Streams.{of_channel}
use Rattle.subscribe_core.specs.Subscriptions.{Subbed}
use Rattle.subscribe_core.specs.Views.{sub_of, told}
use Rattle.session_core.specs.Replies.{sayings_of}
use Rattle.session_core.specs.Sending.{cut_all}
use Rattle.session_core.specs.Streams.{Heard}
use Rattle.session_core.proofs.HearingLemmas.{hear_parts}
use Rattle.session_core.proofs.MovingLemmas.{Flow, keeps_on, known_of}
use Rattle.session_core.proofs.OwingLemmas.{goes_on, since, told_up_to, window}
use Rattle.session_core.proofs.StandingLemmas.{due_changes, found-channel}
use Rattle.session_core.proofs.StartingLemmas.{IsKnown, Keeps, owes, owes_to}
use Rattle.session_core.proofs.TellingLemmas.{note, notes_heard, solid_told, with_told}

pub notes_said : (xs : List ChannelChange) → sayings_of message.ChannelSubscribe (map notice xs) ≡ map note xs
notes_said [] = refl
notes_said (x ∷ xs) = ap (λ l. note x ∷ l) (notes_said xs)

module _ (config : Config) (h : List Entry) (stay : NewsStayWithin) (due : NewsAreTheDue) (each : NewsOfEach) where
  -- the due changes that are taken, of a history up to a place
  abbrev pub come : ℕ → Subbed → List (List ChannelChange)
  come p v = taken 0 0 (dues config v.subs v.cursor (drop v.cursor (take p h)))

  pub come_within : (p : ℕ) (v : Subbed) → p ≤ length h → v.cursor ≤ p → v.cursor + length (come p v) ≤ p
  come_within p v top le =
      let size : length (take p h) ≡ min p (length h) = length-take p h in
      let few : v.cursor + length (come p v) ≤ length (take p h) = stay config (take p h) v.subs v.cursor (omega (arith, size, top, le)) in
      omega (arith, few, size, top)

  -- for one channel they are its changes of the entries that are taken
  come_of : (p k : ℕ) (v : Subbed) (s : Sub) (last : ℕ) → p ≤ length h → Keeps config last v → v.cursor ≤ p → k < length config.channels → sub_of (pos k) v.subs ≡ Some s
      → of_channel (pos k) (joined (come p v)) ≡ whats_of (since s.from (changes_from v.cursor (pos k) (take (length (come p v)) (drop v.cursor h))))
  come_of p k v s last top keeps le within found =
      let d : ℕ = length (come p v) in
      ap (of_channel (pos k)) (due config (take p h) v.subs v.cursor)
      ∙ ap (λ (es : List Entry). of_channel (pos k) (joined (dues config v.subs v.cursor es))) (window v.cursor d p h (come_within p v top le))
      ∙ ap whats_of (each config v.subs k v.cursor (take d (drop v.cursor h)) within ∙ due_changes v.subs (pos k) s keeps.apart found v.cursor (take d (drop v.cursor h)))

  -- the subscriptions after changes were sent to them
  abbrev pub told_on : ℕ → Subbed → Subbed
  told_on p v = record v { cursor = v.cursor + length (come p v); pending = [] }

  abbrev pub news_of : ℕ → Subbed → List ChannelChange
  news_of p v = flat_map (told v.subs) (joined (come p v))

  news_owed : (p last : ℕ) (v : Subbed) (c : ℤ) → p ≤ length h → v.cursor ≤ p → Keeps config last v → owes h v c ++ of_channel c (news_of p v) ≡ owes h (told_on p v) c
  news_owed p last v c top le keeps = by (sub_of c v.subs) refl
    where
      some : (s : Sub) → sub_of c v.subs ≡ Some s → (k : ℕ) → s.channel ≡ pos k → k < length config.channels
          → told_up_to h v.cursor s ++ of_channel c (news_of p v) ≡ told_up_to h (v.cursor + length (come p v)) s
      some s e k is within =
          let same : s.channel ≡ c = found-channel c v.subs s e in
          let id : c ≡ pos k = sym same ∙ is in
          let found : sub_of (pos k) v.subs ≡ Some s = ap (λ z. sub_of z v.subs) (sym id) ∙ e in
          let news : of_channel c (joined (come p v)) ≡ whats_of (since s.from (changes_from v.cursor s.channel (take (length (come p v)) (drop v.cursor h)))) =
          ap (λ z. of_channel z (joined (come p v))) id ∙ come_of p k v s last top keeps le within found
          ∙ ap (λ z. whats_of (since s.from (changes_from v.cursor z (take (length (come p v)) (drop v.cursor h))))) (sym is) in
          ap (λ l. told_up_to h v.cursor s ++ l) (told-stream c s v.subs e (joined (come p v)) ∙ ap (flat_map (view s.start s.all)) news)
          ∙ goes_on h v.cursor (length (come p v)) s (omega (arith, le, top))

      by : (o : Option Sub) → sub_of c v.subs ≡ o → owes_to h v.cursor o ++ of_channel c (news_of p v) ≡ owes_to h (v.cursor + length (come p v)) o
      by None e = told-silent c v.subs e (joined (come p v))
      by (Some s) e = let f = known_of (IsKnown config last) c v.subs s e keeps.known in some s e f.1.0 f.1.1 f.1.2

  pub news_keep : (p last : ℕ) (v : Subbed) → p ≤ length h → last ≤ p → Keeps config last v → Keeps config p (told_on p v)
  news_keep p last v top le keeps =
      let on : Keeps config p v = keeps_on config last p v le keeps in
      record { pending = refl; within = come_within p v top on.within; apart = on.apart; known = on.known }

  pub news_heard : (p last limit number blobs : ℕ) (v : Subbed) (c : ℤ) (k : Heard) → p ≤ length h → last ≤ p → Keeps config last v → k.part ≡ [] → k.told ≡ owes h v c
      → Flow h (told_on p v) c (hear_parts c k (cut_all limit number blobs (map note (news_of p v)))) × ((hear_parts c k (cut_all limit number blobs (map note (news_of p v)))).stops ≡ k.stops)
  news_heard p last limit number blobs v c k top le keeps part told =
      let on : Keeps config p v = keeps_on config last p v le keeps in
      let heard : hear_parts c k (cut_all limit number blobs (map note (news_of p v))) ≡ with_told (of_channel c (news_of p v)) k = notes_heard limit number blobs c (news_of p v) k (solid_told v.subs (joined (come p v))) part in (
        record {
          told = ap (λ (j : Heard). j.told) heard ∙ ap (λ l. l ++ of_channel c (news_of p v)) told ∙ news_owed p p v c top on.within on;
          part = ap (λ (j : Heard). j.part) heard;
        },
        ap (λ (j : Heard). j.stops) heard,
      )
