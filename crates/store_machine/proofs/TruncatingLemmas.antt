-- The answer and the entry of a call that truncates channels.
use Rattle.std.specs.Prelude.{ℕ, ℤ, Bool, true, false, ◌≡◌, ◌*◌, List, [], ◌∷◌, Some, None, length, refl, if◌then◌else◌}
use Rattle.std.specs.Map.{values_of}
use Rattle.std.proofs.Common.{ap, sym, ◌∙◌, subst}
use Rattle.server_config.specs.declared.config.Config.{Config}
use Rattle.channel_store.specs.Channels.{Channel}
use Rattle.etp_values.specs.Weight.{capped}
use Rattle.tx_stage.specs.declared.contents.Contents.{Contents}
use Rattle.store_machine.specs.declared.alterations.Alterations.{Alterations}
use Rattle.store_machine.specs.declared.call.Cutting.{Cutting}
use Rattle.store_machine.specs.declared.call.Reply.TheVariants as replied
use Rattle.store_machine.specs.declared.call.StoreCall.TheVariants as call
use Rattle.store_machine.specs.declared.journal.Act.{Act}
use Rattle.store_machine.specs.declared.journal.Act.TheVariants.{Truncate}
use Rattle.store_machine.specs.declared.journal.Entry.{Entry}
use Rattle.store_machine.specs.Counted.{act_bytes, bytes_with}
use Rattle.store_machine.specs.Channels.{channels_of}
use Rattle.store_machine.specs.Cuts.{cut_verdicts, cuts_accepted}
use Rattle.store_machine.specs.Answers.{act_of, entered, entry, has_room, has_room_for, wanted}
use Rattle.store_machine.specs.Kept.{Keeps}
use Rattle.store_machine.specs.Loads.{Answered}
use Rattle.store_machine.proofs.LawfulLemmas.{no_room_found, room_found}

-- by whether there is room for the entry of the accepted cuts
cuts-answered : (config : Config) (history : List Entry) (by nth : ℕ) (at : ℤ) (items : List (List ℕ × Cutting)) (cuts : List Cutting) (room : Bool) → cuts ≡ cuts_accepted (channels_of config history) [] (values_of items)
    → (cuts ≡ [] → ⊥) → has_room_for config history (Truncate cuts) ≡ room
    → Answered config history by nth at (call.Truncate items) (if room then replied.Verdicts (cut_verdicts (channels_of config history) [] items) else replied.JournalFull)
    (if room then record { by = by; nth = nth; at = at; act = Truncate cuts } ∷ [] else [])
cuts-answered config history by nth at items [] room same some h = absurd (some refl)
cuts-answered config history by nth at items (c ∷ cs) room same some h =
    let w : wanted config history (call.Truncate items) ≡ Truncate (c ∷ cs) ∷ [] = ap (act_of Truncate) (sym same) in
    let r : has_room config history (wanted config history (call.Truncate items)) ≡ room = ap (has_room config history) w ∙ h in
    record {
      told = (λ j. record { mark = length history; reply = if sym r j then replied.Verdicts (cut_verdicts (channels_of config history) [] items) else replied.JournalFull });
      made = (λ j. if sym h j then entry history by nth at (Truncate (c ∷ cs)) ∷ [] else []) ∙ ap (entered config history by nth at) (sym w);
    }

-- there is room for it
pub cuts-done : (config : Config) (journal : List Entry) (by nth : ℕ) (at : ℤ) (total bytes counted mark : ℕ) (t : Contents) (cs : List Channel) (a : Alterations) (items : List (List ℕ × Cutting)) (cuts : List Cutting)
    → Keeps config journal total t cs a → mark ≡ length journal → counted ≡ capped (16 * length cuts) → ((act : Act) → counted ≡ capped (act_bytes act) → Some bytes ≡ bytes_with config.journal mark total act)
    → cuts ≡ cuts_accepted cs [] (values_of items) → (cuts ≡ [] → ⊥)
    → Answered config journal by nth at (call.Truncate items) (replied.Verdicts (cut_verdicts cs [] items)) (record { by = by; nth = nth; at = at; act = Truncate cuts } ∷ [])
cuts-done config journal by nth at total bytes counted mark t cs a items cuts k m many fits taken some =
    let told = cuts-answered config journal by nth at items cuts true (taken ∙ ap (λ (c : List Channel). cuts_accepted c [] (values_of items)) k.channels) some
    (room_found config journal total bytes counted mark (Truncate cuts) k.bytes m many fits).0 in
    subst (λ (c : List Channel). Answered config journal by nth at (call.Truncate items) (replied.Verdicts (cut_verdicts c [] items)) (record { by = by; nth = nth; at = at; act = Truncate cuts } ∷ [])) (sym k.channels) told

-- there is none
pub cuts-full : (config : Config) (journal : List Entry) (by nth : ℕ) (at : ℤ) (total counted mark : ℕ) (t : Contents) (cs : List Channel) (a : Alterations) (items : List (List ℕ × Cutting)) (cuts : List Cutting)
    → Keeps config journal total t cs a → mark ≡ length journal → counted ≡ capped (16 * length cuts) → ((act : Act) → counted ≡ capped (act_bytes act) → None ≡ bytes_with config.journal mark total act)
    → cuts ≡ cuts_accepted cs [] (values_of items) → (cuts ≡ [] → ⊥)
    → Answered config journal by nth at (call.Truncate items) replied.JournalFull []
cuts-full config journal by nth at total counted mark t cs a items cuts k m many fits taken some =
    cuts-answered config journal by nth at items cuts false (taken ∙ ap (λ (c : List Channel). cuts_accepted c [] (values_of items)) k.channels) some
    (no_room_found config journal total counted mark (Truncate cuts) k.bytes m many fits)
