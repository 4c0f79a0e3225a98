-- Points that are given to channels: what the call answers and adds, and that the store keeps what it has to.
use Rattle.std.specs.Prelude.{ℕ, ℤ, Bool, true, false, not, ◌+◌, ◌≡◌, ◌==◌, List, [], ◌∷◌, ◌++◌, Option, Some, None, Ok, Err, length, map, refl, if◌then◌else◌}
use Rattle.std.specs.Option.{option_map}
use Rattle.std.proofs.Common.{ap, sym, ◌∙◌, subst, append-nil, arith}
use Rattle.std.proofs.lemmas.Bool.{false≢true}
use Rattle.std.proofs.lemmas.Bool.Decides.{nat_tests}
use Rattle.server_config.specs.declared.config.Config.{Config}
use Rattle.channel_store.specs.declared.error.ChannelError.{ChannelError}
use Rattle.channel_store.specs.declared.error.ChannelError.TheVariants as fault
use Rattle.channel_store.specs.Channels.{Channel}
use Rattle.channel_store.specs.Refusals.{Refuses, verdict, append_refusal, replace_refusal}
use Rattle.channel_store.specs.Store.{changed}
use Rattle.etp_values.specs.declared.code.ErrorCode.{ErrorCode}
use Rattle.tx_stage.specs.declared.contents.Contents.{Contents}
use Rattle.store_machine.specs.declared.alterations.Alterations.{Alterations}
use Rattle.store_machine.specs.declared.call.Reply.TheVariants as replied
use Rattle.store_machine.specs.declared.call.StoreCall.TheVariants as call
use Rattle.store_machine.specs.declared.journal.Act.{Act}
use Rattle.store_machine.specs.declared.journal.Act.TheVariants as acts
use Rattle.store_machine.specs.declared.journal.Entry.{Entry}
use Rattle.store_machine.specs.declared.load.Load.{Load}
use Rattle.store_machine.specs.declared.load.Load.TheVariants.{Append, Replace}
use Rattle.store_machine.specs.Counted.{counted, counted_act}
use Rattle.store_machine.specs.Channels.{channels_of, code_of, what_of}
use Rattle.store_machine.specs.Answers.{act_of, all_or_none, entered, entries_of, entry, granted, has_room, has_room_for, reply, wanted, written}
use Rattle.store_machine.specs.Legal.{IsNext, Legal}
use Rattle.store_machine.specs.Kept.{Keeps}
use Rattle.store_machine.specs.Loads.{Adds, Answered, IsRefusedBy, added_by, adds_entry, load_act, load_call, load_refusal, unless_refused, without_room}
use Rattle.store_machine.proofs.LawfulLemmas.{keeps-channels, keeps-kept, legal-call, makes-append, makes-replace}

-- ---- refusals

by_refusal : (r : Option ChannelError) (e : ChannelError) (code : ErrorCode) → verdict r ≡ Err e → code ≡ code_of e → Some code ≡ option_map code_of r
by_refusal None e code v c = absurd (cc)
by_refusal (Some x) e code v c = let same : x ≡ e = cc in ap Some (c ∙ ap code_of (sym same))

-- the code of the error by which a call ended
pub refused-code : (e : ChannelError) (r : Option ChannelError) (code : ErrorCode) → Refuses (Err e) r → IsRefusedBy e code → Some code ≡ option_map code_of r
refused-code (fault.NoChannel id) r code h by = by_refusal r (fault.NoChannel id) code (h (λ q. absurd (cc))) by
refused-code (fault.Index id) r code h by = by_refusal r (fault.Index id) code (h (λ q. absurd (cc))) by
refused-code (fault.Kind id) r code h by = by_refusal r (fault.Kind id) code (h (λ q. absurd (cc))) by
refused-code (fault.Doubled id) r code h by = by_refusal r (fault.Doubled id) code (h (λ q. absurd (cc))) by
refused-code fault.Interval r code h by = by_refusal r fault.Interval code (h (λ q. absurd (cc))) by
refused-code (fault.Order id) r code h by = by_refusal r (fault.Order id) code (h (λ q. absurd (cc))) by
refused-code (fault.Outside id) r code h by = by_refusal r (fault.Outside id) code (h (λ q. absurd (cc))) by
refused-code fault.NoMemory r code h by = absurd by

-- a call that ended well has none
pub taken-code : (r : Option ChannelError) → Refuses (Ok tt) r → None ≡ option_map code_of r
taken-code None h = refl
taken-code (Some e) h = absurd (cc)

-- ---- what is asked for, and what is granted

load-wanted : (config : Config) (history : List Entry) (l : Load) → wanted config history (load_call l) ≡ granted config history (load_act l)
load-wanted config history (Append items) = refl
load-wanted config history (Replace channels from to items) = refl

load-reply : (config : Config) (history : List Entry) (l : Load) → reply config history (load_call l) ≡ written (option_map code_of (load_refusal (channels_of config history) l))
load-reply config history (Append items) = refl
load-reply config history (Replace channels from to items) = refl

some_items : {X : Type 0} (x : X) (xs : List X) → not (length (x ∷ xs) == 0) ≡ true
some_items x xs = let e : (length (x ∷ xs) == 0) ≡ false = grind (arith, nat_tests) in ap not e

none-kept : {X : Type 0} (act : List X → Act) (r : Option ChannelError) → act_of act (all_or_none r []) ≡ []
none-kept act None = refl
none-kept act (Some e) = refl

refused-kept : {X : Type 0} (act : List X → Act) (r : Option ChannelError) (code : ErrorCode) (xs : List X) → Some code ≡ option_map code_of r → act_of act (all_or_none r xs) ≡ []
refused-kept act None code xs h = absurd (cc)
refused-kept act (Some e) code xs h = refl

taken-kept : {X : Type 0} (act : List X → Act) (r : Option ChannelError) (x : X) (xs : List X) → None ≡ option_map code_of r → act_of act (all_or_none r (x ∷ xs)) ≡ act (x ∷ xs) ∷ []
taken-kept act None x xs h = refl
taken-kept act (Some e) x xs h = absurd (cc)

-- nothing is granted if no entry is made
granted-none : (config : Config) (history : List Entry) (l : Load) → adds_entry l ≡ false → granted config history (load_act l) ≡ []
granted-none config history (Append []) h = none-kept acts.Append (append_refusal (channels_of config history) [])
granted-none config history (Append (x ∷ xs)) h = absurd (false≢true (sym h ∙ some_items x xs))
granted-none config history (Replace [] from to items) h = none-kept (λ ids. acts.Replace ids from to items) (replace_refusal (channels_of config history) [] from to items)
granted-none config history (Replace (x ∷ xs) from to items) h = absurd (false≢true (sym h ∙ some_items x xs))

-- nor if the channels refuse it
granted-refused : (config : Config) (history : List Entry) (l : Load) (code : ErrorCode) → Some code ≡ option_map code_of (load_refusal (channels_of config history) l) → granted config history (load_act l) ≡ []
granted-refused config history (Append items) code h = refused-kept acts.Append (append_refusal (channels_of config history) items) code items h
granted-refused config history (Replace channels from to items) code h =
    refused-kept (λ ids. acts.Replace ids from to items) (replace_refusal (channels_of config history) channels from to items) code channels h

-- its act is granted if they don't
granted-taken : (config : Config) (history : List Entry) (l : Load) → adds_entry l ≡ true → None ≡ option_map code_of (load_refusal (channels_of config history) l) → granted config history (load_act l) ≡ load_act l ∷ []
granted-taken config history (Append []) some h = absurd (false≢true some)
granted-taken config history (Append (x ∷ xs)) some h = taken-kept acts.Append (append_refusal (channels_of config history) (x ∷ xs)) x xs h
granted-taken config history (Replace [] from to items) some h = absurd (false≢true some)
granted-taken config history (Replace (x ∷ xs) from to items) some h =
    taken-kept (λ ids. acts.Replace ids from to items) (replace_refusal (channels_of config history) (x ∷ xs) from to items) x xs h

-- ---- what the call answers and adds

-- by what is granted, and whether there is room for it
by_room : (config : Config) (history : List Entry) (by nth : ℕ) (at : ℤ) (l : Load) (acts : List Act) (room : Bool) → granted config history (load_act l) ≡ acts → has_room config history acts ≡ room
    → Answered config history by nth at (load_call l) (if room then written (option_map code_of (load_refusal (channels_of config history) l)) else replied.JournalFull)
    (if room then map (entry history by nth at) acts else [])
by_room config history by nth at l acts room g h =
    let w = load-wanted config history l ∙ g in
    let r : has_room config history (wanted config history (load_call l)) ≡ room = ap (has_room config history) w ∙ h in
    record {
      told = (λ j. record { mark = length history; reply = if sym r j then sym (load-reply config history l) j else replied.JournalFull });
      made = (λ j. if sym h j then map (entry history by nth at) acts else []) ∙ ap (entered config history by nth at) (sym w);
    }

-- no entry is made
pub load-none : (config : Config) (history : List Entry) (by nth : ℕ) (at : ℤ) (l : Load) (r : Option ErrorCode) → adds_entry l ≡ false → r ≡ option_map code_of (load_refusal (channels_of config history) l)
    → Answered config history by nth at (load_call l) (written r) []
load-none config history by nth at l r none e =
    subst (λ (q : Option ErrorCode). Answered config history by nth at (load_call l) (written q) []) (sym e)
    (by_room config history by nth at l [] true (granted-none config history l none) refl)

-- the channels refuse it
pub load-refused : (config : Config) (history : List Entry) (by nth : ℕ) (at : ℤ) (l : Load) (code : ErrorCode) → Some code ≡ option_map code_of (load_refusal (channels_of config history) l)
    → Answered config history by nth at (load_call l) (replied.Refused code) []
load-refused config history by nth at l code e =
    subst (λ (q : Option ErrorCode). Answered config history by nth at (load_call l) (written q) []) (sym e)
    (by_room config history by nth at l [] true (granted-refused config history l code e) refl)

-- there is no room for it
pub load-full : (config : Config) (history : List Entry) (by nth : ℕ) (at : ℤ) (l : Load) (r : Option ErrorCode) → adds_entry l ≡ true → r ≡ option_map code_of (load_refusal (channels_of config history) l)
    → has_room_for config history (load_act l) ≡ false → Answered config history by nth at (load_call l) (without_room r) []
load-full config history by nth at l None some e full = by_room config history by nth at l (load_act l ∷ []) false (granted-taken config history l some e) full
load-full config history by nth at l (Some code) some e full = load-refused config history by nth at l code e

load-entry : (history : List Entry) (by nth : ℕ) (at : ℤ) (l : Load) → entry history by nth at (load_act l) ≡ record { by = by; nth = nth; at = at; act = load_act l }
load-entry history by nth at (Append items) = refl
load-entry history by nth at (Replace channels from to items) = refl

-- it is done
pub load-done : (config : Config) (history : List Entry) (by nth : ℕ) (at : ℤ) (l : Load) → adds_entry l ≡ true → None ≡ option_map code_of (load_refusal (channels_of config history) l)
    → has_room_for config history (load_act l) ≡ true → Answered config history by nth at (load_call l) replied.Written (record { by = by; nth = nth; at = at; act = load_act l } ∷ [])
load-done config history by nth at l some e room =
    subst (λ (x : Entry). Answered config history by nth at (load_call l) replied.Written (x ∷ [])) (load-entry history by nth at l)
    (subst (λ (q : Option ErrorCode). Answered config history by nth at (load_call l) (written q) (entry history by nth at (load_act l) ∷ [])) (sym e)
    (by_room config history by nth at l (load_act l ∷ []) true (granted-taken config history l some e) room))

-- ---- what the store keeps

all-kept : {X : Type 0} (r : Option ChannelError) (xs : List X) → None ≡ option_map code_of r → xs ≡ all_or_none r xs
all-kept None xs h = refl
all-kept (Some e) xs h = absurd (cc)

not-empty : {X : Type 0} (xs : List X) → not (length xs == 0) ≡ true → xs ≡ [] → ⊥
not-empty [] some e = false≢true some
not-empty (x ∷ xs) some e = absurd (cc)

pub keeps-load : (config : Config) (journal : List Entry) (by nth : ℕ) (at : ℤ) (total : ℕ) (t : Contents) (cs cs' : List Channel) (a : Alterations) (l : Load) → Keeps config journal total t cs a → IsNext journal by nth
    → adds_entry l ≡ true → None ≡ option_map code_of (load_refusal (channels_of config journal) l) → has_room_for config journal (load_act l) ≡ true → cs' ≡ changed (length journal) at (what_of (load_act l)) cs
    → Keeps config (journal ++ record { by = by; nth = nth; at = at; act = load_act l } ∷ []) (total + counted_act (load_act l)) t cs' a
keeps-load config journal by nth at total t cs cs' a (Append items) k next some e room does =
    keeps-channels acts.Append (λ xs. all_or_none (append_refusal (channels_of config journal) xs) xs) config journal by nth at (makes-append config journal by nth at next) (λ xs. refl)
    total t cs cs' a items items k (all-kept (append_refusal (channels_of config journal) items) items e) (not-empty items some) room does
keeps-load config journal by nth at total t cs cs' a (Replace channels from to items) k next some e room does =
    keeps-channels (λ ids. acts.Replace ids from to items) (λ ids. all_or_none (replace_refusal (channels_of config journal) ids from to items) ids) config journal by nth at
    (makes-replace config journal by nth at from to items next) (λ xs. refl)
    total t cs cs' a channels channels k (all-kept (replace_refusal (channels_of config journal) channels from to items) channels e) (not-empty channels some) room does

-- by how the call ended
pub load-kept : (config : Config) (journal journal' : List Entry) (by nth : ℕ) (at : ℤ) (total bytes : ℕ) (t : Contents) (cs cs' : List Channel) (a : Alterations) (l : Load) (r : Option ErrorCode) → Keeps config journal total t cs a → IsNext journal by nth
    → adds_entry l ≡ true → has_room_for config journal (load_act l) ≡ true → bytes ≡ counted journal + counted_act (load_act l) → r ≡ None → r ≡ option_map code_of (load_refusal cs l)
    → Adds r (record { by = by; nth = nth; at = at; act = load_act l }) journal journal' cs cs' → Keeps config journal' bytes t cs' a
load-kept config journal journal' by nth at total bytes t cs cs' a l r k next some room b none e adds =
    let entry : Entry = record { by = by; nth = nth; at = at; act = load_act l } in
    let done = subst (λ (q : Option ErrorCode). Adds q entry journal journal' cs cs') none adds in
    let free : None ≡ option_map code_of (load_refusal (channels_of config journal) l) = sym none ∙ e ∙ ap (λ (c : List Channel). option_map code_of (load_refusal c l)) k.channels in
    let sum : bytes ≡ total + counted_act (load_act l) = b ∙ ap (λ n. n + counted_act (load_act l)) (sym k.bytes) in
    subst (λ n. Keeps config journal' n t cs' a) (sym sum)
    (subst (λ j. Keeps config j (total + counted_act (load_act l)) t cs' a) (sym done.0) (keeps-load config journal by nth at total t cs cs' a l k next some free room done.1))

pub load-left : (config : Config) (journal journal' : List Entry) (total : ℕ) (t : Contents) (cs cs' : List Channel) (a : Alterations) (e : Entry) (r : Option ErrorCode) (code : ErrorCode) → Keeps config journal total t cs a → r ≡ Some code
    → Adds r e journal journal' cs cs' → Keeps config journal' total t cs' a
load-left config journal journal' total t cs cs' a e r code k some adds =
    let kept = subst (λ (q : Option ErrorCode). Adds q e journal journal' cs cs') some adds in
    keeps-kept config journal journal' total t t cs cs' a a k kept.0 (λ key. refl) kept.1 k.marks

-- what the call answers once it is done or refused
pub load-ended : (config : Config) (history : List Entry) (by nth : ℕ) (at : ℤ) (l : Load) (r : Option ErrorCode) → adds_entry l ≡ true → has_room_for config history (load_act l) ≡ true
    → r ≡ option_map code_of (load_refusal (channels_of config history) l)
    → Answered config history by nth at (load_call l) (written r) (added_by r (record { by = by; nth = nth; at = at; act = load_act l }))
load-ended config history by nth at l None some room e = load-done config history by nth at l some e room
load-ended config history by nth at l (Some code) some room e = load-refused config history by nth at l code e

-- the entry is what the call adds, by someone who may make it
pub load-legal : (config : Config) (history : List Entry) (by nth : ℕ) (at : ℤ) (l : Load) → Legal config history → IsNext history by nth → Legal config (history ++ entries_of config history by nth at (load_call l))
load-legal config history by nth at (Append items) legal next = legal-call config history by nth at (call.Append items) legal next
load-legal config history by nth at (Replace channels from to items) legal next = legal-call config history by nth at (call.Replace channels from to items) legal next

-- a journal with what was added
pub added-is : (r : Option ErrorCode) (journal : List Entry) (e : Entry) → unless_refused r journal e ≡ journal ++ added_by r e
added-is None journal e = refl
added-is (Some code) journal e = sym (append-nil journal)
