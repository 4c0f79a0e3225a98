-- What a form comes to, command by command.
use Rattle.std.proofs.Common.{◌≡◌, ◌≢◌, ◌≤◌, ℕ, ℤ, Bool, false, List, [], length, arith, Option, None, Some, IfSome, unwrap_or, inl, inr, refl, ap, sym, subst}
use Rattle.std.specs.Io.KnownBytes.{IsAtEnd, Keeps}
use Rattle.channel_store.specs.declared.copy.ChangeMsg.{ChangeMsg}
use Rattle.client_words.specs.Forms.{as_command}
use Rattle.client_words.specs.Words.{Delete, Follow, Form, Get, Load, Ping, Put, Range, Spaces, Watch}
use Rattle.client_words.specs.declared.words.Command.{Command as Asked}
use Rattle.client_words.specs.declared.words.Command.TheVariants as asked
use Rattle.etp_outside.specs.declared.status.Status.{Status}
use Rattle.etp_outside.specs.declared.status.Status.TheVariants as status
use Rattle.etp_outside.proofs.ToldLemmas.{told_self}
use Rattle.etp_values.specs.declared.uri.StoreUri.{StoreUri}
use Rattle.point_lines.specs.Lines.{lines_in}
use Rattle.url.specs.Parts.{Parts}
use Rattle.client_forms.specs.Ctl.{Deleting, Following, Getting, Listing, Loading, Opening, Pinging, Putting, Ranging, Watching, ctl}
use Rattle.client_forms.specs.Jobs.{IsDelete, IsFollow, IsGet, IsList, IsPing, IsPut, IsRange, follow_stage, range_stage, stage_of}
use Rattle.client_forms.specs.declared.following.FollowStage.{FollowStage}
use Rattle.client_forms.specs.declared.following.FollowStage.TheVariants as follow
use Rattle.client_forms.specs.declared.ranging.RangeStage.{RangeStage}
use Rattle.client_forms.specs.declared.ranging.RangeStage.TheVariants as range
use Rattle.client_forms.specs.Top.{Answers, Fulfils, ReadsAll, Runs, Untouched, World, max_file, server_of}

abbrev pub form_with : Parts → Asked → Form
form_with u a = record { address = u; command = as_command a }

-- ---- what was not touched

keeps_self : (x : Option (List ℕ)) → Keeps x x
keeps_self None = tt
keeps_self (Some xs) = refl

untouched : (w : World) → Untouched w w
untouched w = record { input = keeps_self w.input.left; output = keeps_self w.output.held; told = told_self w.told (λ xs ys. ys ≡ xs) (λ xs. refl); backs = refl }

pub no_memory : (u : Parts) (a : Asked) (shown : ℤ → List ChangeMsg → List ℕ) (files : List ℕ → Option (List ℕ)) (w : World) → Fulfils status.NoMemory (form_with u a) shown files w w
no_memory u a shown files w = λ tells. inl (tt, untouched w)

-- ---- the bytes of the input

abbrev bytes_of : Option (List ℕ) → List ℕ
bytes_of left = unwrap_or left []

bytes_are : (left : Option (List ℕ)) → IfSome left (λ bytes. bytes_of left ≡ bytes)
bytes_are None = tt
bytes_are (Some bytes) = refl

pub told_is : (left : Option (List ℕ)) → left ≢ None → left ≡ Some (bytes_of left)
told_is None told = absurd (told refl)
told_is (Some bytes) told = refl

-- no file is not too long
no_file : (bytes : List ℕ) → bytes ≡ [] → length bytes ≤ max_file
no_file bytes is = rw is (omega arith)

-- ---- the commands

put_reads_all : (st : Status) (u : StoreUri) (name : List ℕ) (left : Option (List ℕ)) → ReadsAll st (Put u name) left
put_reads_all status.Done u name left = tt
put_reads_all st u name left = tt

get_reads_all : (st : Status) (u : StoreUri) (left : Option (List ℕ)) → ReadsAll st (Get u) left
get_reads_all status.Done u left = tt
get_reads_all st u left = tt

watch_reads_all : (st : Status) (u : StoreUri) (n : ℕ) (left : Option (List ℕ)) → ReadsAll st (Watch u n) left
watch_reads_all status.Done u n left = tt
watch_reads_all st u n left = tt

ping_reads_all : (st : Status) (left : Option (List ℕ)) → ReadsAll st Ping left
ping_reads_all status.Done left = tt
ping_reads_all st left = tt

spaces_reads_all : (st : Status) (left : Option (List ℕ)) → ReadsAll st Spaces left
spaces_reads_all status.Done left = tt
spaces_reads_all st left = tt

range_reads_all : (st : Status) (uri : StoreUri) (from to : ℤ) (left : Option (List ℕ)) → ReadsAll st (Range uri from to) left
range_reads_all status.Done uri from to left = tt
range_reads_all st uri from to left = tt

delete_reads_all : (st : Status) (uri : StoreUri) (left : Option (List ℕ)) → ReadsAll st (Delete uri) left
delete_reads_all status.Done uri left = tt
delete_reads_all st uri left = tt

follow_reads_all : (st : Status) (uri : StoreUri) (start : ℤ) (left : Option (List ℕ)) → ReadsAll st (Follow uri start) left
follow_reads_all status.Done uri start left = tt
follow_reads_all st uri start left = tt

load_reads_all : (st : Status) (u : StoreUri) (left : Option (List ℕ)) → (st ≡ status.Done → IsAtEnd left) → ReadsAll st (Load u) left
load_reads_all status.Done u left end = end refl
load_reads_all st u left end = tt

module _ (st : Status) (u : Parts) (a : Asked) (shown : ℤ → List ChangeMsg → List ℕ) (files : List ℕ → Option (List ℕ)) (w z : World) where
  by_command : (b : Asked) → a ≡ b → Fulfils st (form_with u b) shown files w z → Fulfils st (form_with u a) shown files w z
  by_command b is h = subst (λ v. Fulfils st (form_with u v) shown files w z) (sym is) h

  pub ran_put : (uri : StoreUri) (file : _) → a ≡ asked.Put uri file → (payload : List ℕ) → IfSome (files file.now) (λ bytes. payload ≡ bytes) → length payload ≤ max_file → Runs st (server_of u) (ctl shown (Putting uri payload)) w z → Fulfils st (form_with u a) shown files w z
  ran_put uri file is payload payload_is fits runs =
      by_command (asked.Put uri file) is (λ tells. inr (record { payload = payload; payload_is = payload_is; payload_fits = fits; read = bytes_of w.input.left; read_is = bytes_are w.input.left; runs = runs; all_read = put_reads_all st uri file.now z.input.left }))

  pub ran_get : (uri : StoreUri) → a ≡ asked.Get uri → Runs st (server_of u) (ctl shown (Getting uri)) w z → Fulfils st (form_with u a) shown files w z
  ran_get uri is runs =
      by_command (asked.Get uri) is (λ tells. inr (record { payload = []; payload_is = tt; payload_fits = no_file [] refl; read = bytes_of w.input.left; read_is = bytes_are w.input.left; runs = runs; all_read = get_reads_all st uri z.input.left }))

  pub ran_watch : (uri : StoreUri) (count : ℕ) → a ≡ asked.Watch uri count → Runs st (server_of u) (ctl shown (Watching uri count)) w z → Fulfils st (form_with u a) shown files w z
  ran_watch uri count is runs =
      by_command (asked.Watch uri count) is (λ tells. inr (record { payload = []; payload_is = tt; payload_fits = no_file [] refl; read = bytes_of w.input.left; read_is = bytes_are w.input.left; runs = runs; all_read = watch_reads_all st uri count z.input.left }))

  pub ran_ping : a ≡ asked.Ping → Runs st (server_of u) (ctl shown Pinging) w z → Fulfils st (form_with u a) shown files w z
  ran_ping is runs =
      by_command asked.Ping is (λ tells. inr (record { payload = []; payload_is = tt; payload_fits = no_file [] refl; read = bytes_of w.input.left; read_is = bytes_are w.input.left; runs = runs; all_read = ping_reads_all st z.input.left }))

  pub ran_spaces : a ≡ asked.Spaces → Runs st (server_of u) (ctl shown Listing) w z → Fulfils st (form_with u a) shown files w z
  ran_spaces is runs =
      by_command asked.Spaces is (λ tells. inr (record { payload = []; payload_is = tt; payload_fits = no_file [] refl; read = bytes_of w.input.left; read_is = bytes_are w.input.left; runs = runs; all_read = spaces_reads_all st z.input.left }))

  pub ran_range : (uri : StoreUri) (from to : ℤ) → a ≡ asked.Range uri from to → Runs st (server_of u) (ctl shown (Ranging uri from to)) w z → Fulfils st (form_with u a) shown files w z
  ran_range uri from to is runs =
      by_command (asked.Range uri from to) is (λ tells. inr (record { payload = []; payload_is = tt; payload_fits = no_file [] refl; read = bytes_of w.input.left; read_is = bytes_are w.input.left; runs = runs; all_read = range_reads_all st uri from to z.input.left }))

  pub ran_delete : (uri : StoreUri) → a ≡ asked.Delete uri → Runs st (server_of u) (ctl shown (Deleting uri)) w z → Fulfils st (form_with u a) shown files w z
  ran_delete uri is runs =
      by_command (asked.Delete uri) is (λ tells. inr (record { payload = []; payload_is = tt; payload_fits = no_file [] refl; read = bytes_of w.input.left; read_is = bytes_are w.input.left; runs = runs; all_read = delete_reads_all st uri z.input.left }))

  pub ran_follow : (uri : StoreUri) (start : ℤ) → a ≡ asked.Follow uri start → Runs st (server_of u) (ctl shown (Following uri start)) w z → Fulfils st (form_with u a) shown files w z
  ran_follow uri start is runs =
      by_command (asked.Follow uri start) is (λ tells. inr (record { payload = []; payload_is = tt; payload_fits = no_file [] refl; read = bytes_of w.input.left; read_is = bytes_are w.input.left; runs = runs; all_read = follow_reads_all st uri start z.input.left }))

  pub ran_load : (uri : StoreUri) → a ≡ asked.Load uri
      → ((bytes : List ℕ) → w.input.left ≡ Some bytes → Runs st (server_of u) (ctl shown (Loading uri (lines_in bytes))) w z)
      → ((bytes : List ℕ) → w.input.left ≡ Some bytes → st ≡ status.Done → IsAtEnd z.input.left) → Fulfils st (form_with u a) shown files w z
  ran_load uri is runs end =
      by_command (asked.Load uri) is (λ tells.
      let told = told_is w.input.left tells in
      inr (record { payload = []; payload_is = tt; payload_fits = no_file [] refl; read = bytes_of w.input.left; read_is = bytes_are w.input.left; runs = runs (bytes_of w.input.left) told; all_read = load_reads_all st uri z.input.left (end (bytes_of w.input.left) told) }))

-- ---- where commands begin

pub put_begins : (u v : StoreUri) (p q : List ℕ) (b : Bool) → (v ≡ u) × (q ≡ p) × (b ≡ false) → IsPut v q b (Putting u p) Opening
put_begins u v p q b h = record { job_is = λ i. Putting (sym h.0 i) (sym h.1 i); stage_is = sym (ap stage_of h.2) }

pub get_begins : (u v : StoreUri) (b : Bool) → (v ≡ u) × (b ≡ false) → IsGet v b (Getting u) Opening
get_begins u v b h = record { job_is = ap Getting (sym h.0); stage_is = sym (ap stage_of h.1) }

pub ping_begins : (b : Bool) → b ≡ false → IsPing b Pinging Opening
ping_begins b is = record { job_is = refl; stage_is = sym (ap stage_of is) }

pub list_begins : (b : Bool) → b ≡ false → IsList b Listing Opening
list_begins b is = record { job_is = refl; stage_is = sym (ap stage_of is) }

pub delete_begins : (u v : StoreUri) (b : Bool) → (v ≡ u) × (b ≡ false) → IsDelete v b (Deleting u) Opening
delete_begins u v b h = record { job_is = ap Deleting (sym h.0); stage_is = sym (ap stage_of h.1) }

pub range_begins : (u v : StoreUri) (from to low high : ℤ) (now : RangeStage) (kind : ℕ) → v ≡ u → low ≡ from → high ≡ to → now ≡ range.Opening → IsRange v low high now kind (Ranging u from to) Opening
range_begins u v from to low high now kind uri from_is to_is is = record { job_is = λ i. Ranging (sym uri i) (sym from_is i) (sym to_is i); stage_is = sym (ap (λ n. range_stage n kind) is) }

pub follow_begins : (u v : StoreUri) (start first : ℤ) (now : FollowStage) → v ≡ u → first ≡ start → now ≡ follow.Opening → IsFollow v first now (Following u start) Opening
follow_begins u v start first now uri start_is is = record { job_is = λ i. Following (sym uri i) (sym start_is i); stage_is = sym (ap follow_stage is) }

-- ---- words

pub no_room_for_words : (o : Option Form) (shown : ℤ → List ChangeMsg → List ℕ) (files : List ℕ → Option (List ℕ)) (w : World) → Answers status.NoMemory o shown files w w
no_room_for_words None shown files w = (inr refl, untouched w)
no_room_for_words (Some form) shown files w = λ tells. inl (tt, untouched w)
