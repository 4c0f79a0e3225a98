-- Links that were served, and the status that follows.
use Rattle.std.proofs.Common.{◌≡◌, ◌≤◌, ◌+◌, ◌⊎◌, ℕ, ℤ, Bool, List, [], ◌∷◌, ◌++◌, length, None, Some, Ok, ap, sym, ◌∙◌, subst, refl, inl, inr, arith}
use Rattle.std.proofs.lemmas.List.{append-nil}
use Rattle.std.proofs.KnownBytes.{Keeps-refl}
use Rattle.std.specs.Prelude.{IfSome}
use Rattle.std.specs.declared.option.Option.{Option}
use Rattle.etp_values.proofs.PrefixLemmas.{prefix_self}
use Rattle.chan_defs.specs.Config.{defs}
use Rattle.server_config.specs.declared.config.Config.{Config}
use Rattle.config_file.specs.Settings.{IsNoConfig}
use Rattle.etp_outside.specs.Doors.{Back}
use Rattle.etp_outside.specs.Faults.{Rose}
use Rattle.etp_outside.specs.Told.{Told}
use Rattle.etp_outside.specs.declared.status.Status.{Status}
use Rattle.etp_outside.specs.declared.status.Status.TheVariants as outcome
use Rattle.etp_outside.proofs.ToldLemmas.{told_self}
use Rattle.gathered_text.specs.Writing.{Writes}
use Rattle.gathered_text.specs.declared.writing.Wrote.{Wrote}
use Rattle.gathered_text.specs.declared.writing.Wrote.TheVariants.{Whole, WriteFault, NoMemory}
use Rattle.store_machine.specs.Legal.{Legal, door}
use Rattle.store_machine.specs.declared.journal.Entry.{Entry}
use Rattle.turn_book.specs.Rules.{Knows}
use Rattle.turn_book.specs.Steps.{first_view}
use Rattle.store_hub.specs.Words.{Known, by_of, enters_of}
use Rattle.etp_serve.specs.Accepted.{Backs, IsReached, ServesAll}
use Rattle.etp_serve.specs.Closing.{EachEntered, HasNoMoreOf, ServedInTheEnd, ServedOver}
use Rattle.etp_serve.specs.declared.served.Served.{Served}
use Rattle.etp_serve.specs.declared.served.Served.TheVariants as why
use Rattle.etp_serve.proofs.AcceptLemmas.{own_still}
use Rattle.server_forms.specs.Report.{report}
use Rattle.server_forms.specs.Top.{Answers, AtMost, Door, Fulfils, HasEntered, ListensThere, Output, ServesWith, Tries, Untouched, door_of, output_of, status_of}
use Rattle.server_forms.specs.Words.{Command}

-- ---- links

-- a listener that is not listening gives out none
pub served_none : (test : List ℤ → Bool) (config : Config) (v : Known) (given now : ℕ) (b0 b : Option (List Back)) → now ≡ given → b ≡ b0 → ServesAll why.ListenFault test config v v given now b0 b
served_none test config v given now b0 b same is = record {
  came = [];
  met = sym (append-nil v.met);
  before = prefix_self v.seen;
  silent = record { number = refl; own = own_still v.number v.seen };
  each = tt;
  count = omega (arith, same);
  links = subst (λ (z : Option (List Back)). Told b0 z (λ x y. (new : List Back) × (y ≡ x ++ new) × Backs [] new)) (sym is)
      (told_self b0 (λ x y. (new : List Back) × (y ≡ x ++ new) × Backs [] new) (λ x. ([], sym (append-nil x), tt)));
  memory = tt;
}

-- the listener is at the beginning what it was before it listened
pub served_from : (end : Served) (test : List ℤ → Bool) (config : Config) (v0 v : Known) (given before now : ℕ) (b0 b1 b : Option (List Back)) → given ≡ before → b1 ≡ b0
    → ServesAll end test config v0 v given now b1 b → ServesAll end test config v0 v before now b0 b
served_from end test config v0 v given before now b0 b1 b same is s =
    subst (λ (n : ℕ). ServesAll end test config v0 v n now b0 b) same (subst (λ (x : Option (List Back)). ServesAll end test config v0 v given now x b) is s)

pub most_from : (most : Option ℕ) (given before now : ℕ) → given ≡ before → IfSome most (λ m. now ≤ given + m) → IfSome most (λ m. now ≤ before + m)
most_from most given before now same few = subst (λ (n : ℕ). IfSome most (λ m. now ≤ n + m)) same few

pub reached_from : (most : Option ℕ) (given before now : ℕ) (P : Type 0) → given ≡ before → P ⊎ IsReached most given now → P ⊎ IsReached most before now
reached_from most given before now P same is = subst (λ (n : ℕ). P ⊎ IsReached most n now) same is

pub most_same : (most : Option ℕ) (given now : ℕ) → now ≡ given → IfSome most (λ m. now ≤ given + m)
most_same None given now same = tt
most_same (Some m) given now same = omega (arith, same)

-- ---- the status

pub done_is : (end : Served) (reported : Wrote) → status_of end reported ≡ outcome.Done → end ≡ why.Stopped
done_is why.Stopped reported is = refl
done_is why.ListenFault reported is = absurd (cc is)
done_is why.NoMemory reported is = absurd (cc is)

pub write_fault_is : (end : Served) (reported : Wrote) → status_of end reported ≡ outcome.WriteFault → reported ≡ WriteFault
write_fault_is why.Stopped Whole is = absurd (cc is)
write_fault_is why.Stopped WriteFault is = refl
write_fault_is why.Stopped NoMemory is = absurd (cc is)
write_fault_is why.ListenFault reported is = absurd (cc is)
write_fault_is why.NoMemory reported is = absurd (cc is)

pub listen_fault_is : (end : Served) (reported : Wrote) → status_of end reported ≡ outcome.ListenFault → end ≡ why.ListenFault
listen_fault_is why.Stopped Whole is = absurd (cc is)
listen_fault_is why.Stopped WriteFault is = absurd (cc is)
listen_fault_is why.Stopped NoMemory is = absurd (cc is)
listen_fault_is why.ListenFault reported is = refl
listen_fault_is why.NoMemory reported is = absurd (cc is)

-- well-formed words, and a file that was read, are not at fault
pub no_usage : (end : Served) (reported : Wrote) → status_of end reported ≡ outcome.Usage → ⊥
no_usage why.Stopped Whole is = absurd (cc is)
no_usage why.Stopped WriteFault is = absurd (cc is)
no_usage why.Stopped NoMemory is = absurd (cc is)
no_usage why.ListenFault reported is = absurd (cc is)
no_usage why.NoMemory reported is = absurd (cc is)

pub no_read_fault : (end : Served) (reported : Wrote) → status_of end reported ≡ outcome.ReadFault → ⊥
no_read_fault why.Stopped Whole is = absurd (cc is)
no_read_fault why.Stopped WriteFault is = absurd (cc is)
no_read_fault why.Stopped NoMemory is = absurd (cc is)
no_read_fault why.ListenFault reported is = absurd (cc is)
no_read_fault why.NoMemory reported is = absurd (cc is)

-- if there is no configuration, the status is no other's
pub never : (status other : Status) (content : Option (List ℕ)) → (IsNoConfig other content → ⊥) → IsNoConfig status content → status ≡ other → ⊥
never status other content not fact is = not (subst (λ (s : Status). IsNoConfig s content) is fact)

-- ---- the whole

pub untouched : (given now : ℕ) (b0 b : Option (List Back)) (h : Option (List ℕ)) (f n : ℕ) → now ≡ given → b ≡ b0 → Untouched (door_of given now b0 b) (output_of h h f n)
untouched given now b0 b h f n same is = record { given = same; backs = is; written = Keeps-refl h }

-- with `Done` a session was let in for each link, or the journal is full
entered_of : EachEntered → (end : Served) (reported : Wrote) (status : Status) (test : List ℤ → Bool) (config : Config) (journal : List Entry) (given0 given : ℕ) (b0 b : Option (List Back))
    → status ≡ status_of end reported → ServedOver end test config 1 journal given0 given b0 b → status ≡ outcome.Done → HasEntered config journal given0 given
entered_of entering end reported status test config journal given0 given b0 b status_is links is =
    let stopped : end ≡ why.Stopped = done_is end reported (sym status_is ∙ is) in
    entering test config 1 journal given0 given b0 b (subst (λ (e : Served). ServedOver e test config 1 journal given0 given b0 b) stopped links)

-- links were served over the journal of the store in the end
pub serves_with : ServedInTheEnd → EachEntered → (end : Served) (reported : Wrote) (status : Status) (test : List ℤ → Bool) (config hubs stores : Config) (v0 v : Known) (given0 given : ℕ) (b0 b : Option (List Back)) (journal : List Entry) (h k : Option (List ℕ)) (f n : ℕ)
    → hubs ≡ config → stores ≡ hubs → v0 ≡ first_view (door ∷ []) config → Legal stores journal → Knows by_of enters_of journal v → ServesAll end test hubs v0 v given0 given b0 b
    → status ≡ status_of end reported → Writes reported (report journal) h k → (reported ≡ WriteFault → Rose f n) → ServesWith status config test (door_of given0 given b0 b) (output_of h k f n)
serves_with closing entering end reported status test config hubs stores v0 v given0 given b0 b journal h k f n same kept view legal knows served status_is written cause =
    let closed : ServedOver end test hubs (length v0.seen) journal given0 given b0 b × HasNoMoreOf v0 journal = closing end test hubs v0 v given0 given b0 b journal (ap (λ (x : Known). x.met) view) knows served in
    let links : ServedOver end test config 1 journal given0 given b0 b = subst (λ (n : ℕ). ServedOver end test config n journal given0 given b0 b) (ap (λ (x : Known). length x.seen) view)
    (subst (λ (c : Config). ServedOver end test c (length v0.seen) journal given0 given b0 b) same closed.0) in
    record {
      end = end;
      reported = reported;
      journal = journal;
      legal = subst (λ (c : Config). Legal c journal) same (subst (λ (c : Config). Legal c journal) kept legal);
      links = links;
      let_in = entered_of entering end reported status test config journal given0 given b0 b status_is links;
      silent = subst (λ (x : Known). HasNoMoreOf x journal) view closed.1;
      status_is = status_is;
      written = written;
      cause = cause;
    }

pub tries_not : (other status : Status) (config : Config) (test : List ℤ → Bool) (door : Door) (output : Output) → ((end : Served) (reported : Wrote) → status_of end reported ≡ other → ⊥) → (outcome.NoMemory ≡ other → ⊥)
    → Tries status config test door output → status ≡ other → ⊥
tries_not other status config test listener output not lacks (inl t) is = lacks (subst (λ (s : Status). s ≡ other) t.0 is)
tries_not other status config test listener output not lacks (inr s) is = not s.end s.reported (subst (λ (x : Status). x ≡ other) s.status_is is)

pub fulfils_of : (status : Status) (command : Command) (files : List ℕ → Option (List ℕ)) (test : List ℤ → Bool) (door : Door) (output : Output) (config : Config)
    → IfSome (files command.config) (λ bytes. defs bytes ≡ Ok config) → Tries status config test door output → Fulfils status command files test door output
fulfils_of status command files test listener output config read (inl t) = inl (subst (λ (s : Status). IsNoConfig s (files command.config)) (sym t.0) tt, t.1)
fulfils_of status command files test listener output config read (inr s) = inr record { config = config; is_read = read; served = s }

-- there was no memory for the words
pub no_memory : (c : Option Command) (files : List ℕ → Option (List ℕ)) (test : List ℤ → Bool) (door : Door) (output : Output) → Untouched door output → Answers outcome.NoMemory c files test door output
no_memory None files test listener output same = (inr refl, same)
no_memory (Some command) files test listener output same = inr (refl, same)

pub there_same : (c : Option Command) (given now : ℕ) (before place : Option (List ℕ)) → now ≡ given → ListensThere c given now before place
there_same None given now before place same = same
there_same (Some command) given now before place same = inl same

pub at_most_same : (c : Option Command) (given now : ℕ) → now ≡ given → AtMost c given now
at_most_same None given now same = same
at_most_same (Some command) given now same = most_same command.sessions given now same
