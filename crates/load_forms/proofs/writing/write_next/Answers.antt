use Rattle.std.proofs.Common.{◌≡◌, ◌∙◌, ℕ, List, [], ◌++◌, ap, subst, sym, IfNone, IfSome, Option}
use Rattle.etp_capture.specs.Capture.{frames_bytes}
use Rattle.etp_capture.specs.Frames.{frame_bytes}
use Rattle.gathered_text.specs.Writing.{Going, Writes}
use Rattle.gathered_text.specs.declared.writing.Wrote.{Wrote}
use Rattle.gathered_text.proofs.GoingLemmas.{going_as, going_cut}
use Rattle.generator.proofs.GivenLemmas.{none_given, two_given}
use Rattle.load_forms.proofs.EndingLemmas.{fewer, goes_on, ends, fault_of}
use Rattle.load_forms.proofs.writing.write_next.Goals as goal

pub returns-in-Err-clause-ends : goal.returns-in-Err-clause-ends
returns-in-Err-clause-ends g c = λ whole before going.
    going_cut whole c.args.text.now.items (frames_bytes c.args.generator.now) before (g.W.Sink.held c.args.out.now) going

pub returns-in-None-clause-ends : goal.returns-in-None-clause-ends
returns-in-None-clause-ends g c = λ whole before going.
    let held = g.W.Sink.held c.args.out.now in
    let none = none_given c.in-Ok.two c.args.generator.now c.next.new.self c.in-None.is c.in-Ok.ensures in
    let left : [] ≡ frames_bytes c.args.generator.now = sym (ap frames_bytes none) in
    let here : Going whole c.args.text.now.items [] before held = going_as whole c.args.text.now.items (frames_bytes c.args.generator.now) [] before held left going in
    c.finish.ensures.written whole before (subst (λ (t : List ℕ). Going whole t [] before held) (sym c.as_slice.ensures.value) here)

pub returns-in-Some-clause-fewer : goal.returns-in-Some-clause-fewer
returns-in-Some-clause-fewer g c =
    fewer c.unless_whole.result c.in-Some.two.0 c.in-Some.two.1 c.args.generator.now c.next.new.self (two_given c.in-Ok.two c.in-Some.two c.args.generator.now c.next.new.self c.in-Some.is c.in-Ok.ensures)

pub returns-in-Some-clause-goes : goal.returns-in-Some-clause-goes
returns-in-Some-clause-goes g c =
    let held = g.W.Sink.held c.args.out.now in
    let kept = g.W.Sink.held c.write_two.new.out in
    let rest = frames_bytes c.next.new.self in
    let all = frames_bytes c.args.generator.now in
    let old = c.args.text.now.items in
    let new = c.write_two.new.text.items in
    let split : frame_bytes c.in-Some.two.0 ++ (frame_bytes c.in-Some.two.1 ++ rest) ≡ all
    = sym (ap frames_bytes (two_given c.in-Ok.two c.in-Some.two c.args.generator.now c.next.new.self c.in-Some.is c.in-Ok.ensures)) in
    let step = λ (whole : List ℕ) (before : Option (List ℕ)) (going : Going whole old all before held).
    c.write_two.ensures.goes whole rest before (going_as whole old all (frame_bytes c.in-Some.two.0 ++ (frame_bytes c.in-Some.two.1 ++ rest)) before held split going) in
    subst (λ (end : Option Wrote). IfNone end ((whole : List ℕ) (before : Option (List ℕ)) → Going whole old all before held → Going whole new rest before kept))
    (sym c.unless_whole.ensures) (goes_on old new all rest held kept c.write_two.result step)

pub returns-in-Some-clause-ends : goal.returns-in-Some-clause-ends
returns-in-Some-clause-ends g c =
    let held = g.W.Sink.held c.args.out.now in
    let kept = g.W.Sink.held c.write_two.new.out in
    let rest = frames_bytes c.next.new.self in
    let all = frames_bytes c.args.generator.now in
    let old = c.args.text.now.items in
    let new = c.write_two.new.text.items in
    let split : frame_bytes c.in-Some.two.0 ++ (frame_bytes c.in-Some.two.1 ++ rest) ≡ all
    = sym (ap frames_bytes (two_given c.in-Ok.two c.in-Some.two c.args.generator.now c.next.new.self c.in-Some.is c.in-Ok.ensures)) in
    let step = λ (whole : List ℕ) (before : Option (List ℕ)) (going : Going whole old all before held).
    c.write_two.ensures.goes whole rest before (going_as whole old all (frame_bytes c.in-Some.two.0 ++ (frame_bytes c.in-Some.two.1 ++ rest)) before held split going) in
    subst (λ (end : Option Wrote). IfSome end (λ e. (whole : List ℕ) (before : Option (List ℕ)) → Going whole old all before held → Writes e whole before kept))
    (sym c.unless_whole.ensures) (ends old new all rest held kept c.write_two.result step)

pub returns-in-Some-clause-cause : goal.returns-in-Some-clause-cause
returns-in-Some-clause-cause g c = λ is. c.write_two.ensures.cause (fault_of c.write_two.result (sym c.unless_whole.ensures ∙ is))
