-- What holds for a session's own run by the laws on runs.
use Rattle.std.proofs.Common.{◌≡◌, ◌≤◌, ◌<◌, ◌+◌, ◌^◌, ℕ, List, [], ◌∷◌, length, map, refl, subst, ◌∙◌, arith}
use mathlib.Core.List.{IsPrefix}
use Rattle.server_config.specs.declared.config.ChannelDef.{ChannelDef}
use Rattle.server_config.specs.declared.config.Config.{Config}
use Rattle.store_machine.specs.declared.journal.Entry.{Entry}
use Rattle.etp_values.specs.Rising.{Rises}
use Rattle.session_core.specs.Arriving.{Event}
use Rattle.session_core.specs.Run.{Heeds, run}
use Rattle.session_core.specs.Serial as serial
use Rattle.session_core.specs.Session.{bytes_of}
use Rattle.session_core.specs.Streams as streams
use Rattle.session_core.specs.declared.state.Outgoing.{Outgoing}
use Rattle.etp_serve.specs.Laws.{Laws}
use Rattle.etp_serve.specs.Served.{IsCutInEvent}

-- ---- places that rise from one number on rise from any lower one on

rise_so : (m low : ℕ) (ps : List ℕ) (high : ℕ) → m ≤ low → Rises low ps high → serial.RisesFrom m ps
rise_so m low [] high le r = tt
rise_so m low (p ∷ ps) high le r = ((let f = r.0 in omega (arith, f, le)), rise_so p p ps high (omega arith) r.1)

rise_within : (m low : ℕ) (ps : List ℕ) (high : ℕ) → m ≤ low → Rises low ps high → Rises m ps high
rise_within m low [] high le r = omega (arith, le, r)
rise_within m low (p ∷ ps) high le r = ((let f = r.0 in omega (arith, f, le)), rise_within p p ps high (omega arith) r.1)

-- ---- the channels that are read from a configuration

pub each_has_one : (config : Config) (channels read : List ChannelDef) → channels ≡ config.channels → read ≡ channels → length read < 2 ^ 63 → streams.HasIds config
each_has_one config channels read is whole few = subst (λ (l : List ChannelDef). length l < 2 ^ 63) (whole ∙ is) few

-- ---- the first messages are those of a front

record FrontOf (all : List Outgoing) (messages : List (List ℕ)) : Type 0 where
  front : List Outgoing
  messages_are : messages ≡ map bytes_of front
  begins : IsPrefix front all

front_of : (messages : List (List ℕ)) (all : List Outgoing) → IsPrefix messages (map bytes_of all) → FrontOf all messages
front_of [] all p = record { front = []; messages_are = refl; begins = (all, refl) }
front_of (m ∷ ms) [] p = absurd (cc (p.1))
front_of (m ∷ ms) (o ∷ os) p =
    let r = front_of ms os (p.0, cc (p.1)) in
    let same : m ≡ bytes_of o = cc (p.1) in
    record { front = o ∷ r.front; messages_are = cc (same, r.messages_are); begins = (r.begins.0, cc (r.begins.1)) }

-- ---- the run

module _ (laws : Laws) (config : Config) (n : ℕ) (h : List Entry) (places : List ℕ) (es : List Event) (rises : Rises (n + 1) places (length h)) where
  pub is_serial : serial.IsSerial config n h places es
  is_serial = laws.serial config n h places es (rise_so 0 (n + 1) places (length h) (omega arith) rises)

  within : Rises 0 places (length h)
  within = rise_within 0 (n + 1) places (length h) (omega arith) rises

  pub is_streamed : streams.HasIds config → streams.IsStreamed config n h places es
  is_streamed ids = laws.streams config n h places es ids within

  pub is_told_at_idle : streams.HasIds config → Heeds config n h places es → streams.IsToldAtIdle config n h places es
  is_told_at_idle ids heeds = laws.idle config n h places es ids within heeds

  pub is_cut : streams.HasIds config → IsCutInEvent config n h places es
  is_cut ids messages p =
      let r = front_of messages (run config n h places es).sent p in
      record { front = r.front; messages_are = r.messages_are; within = laws.fronts config n h places es r.front ids within r.begins }
