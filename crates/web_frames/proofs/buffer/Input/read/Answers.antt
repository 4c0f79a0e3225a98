use Rattle.std.proofs.Common.{ℕ, arith, length, take, ◌≡◌, ◌<◌, ◌-◌, sym, length-take, length-drop}
use Rattle.std.proofs.lemmas.Bool.Decides.{nat_tests}
use Rattle.web_frames.proofs.BufferLemmas.{window-read, window-unread}
use Rattle.web_frames.proofs.buffer.Input.read.Goals as goal

pub returns-in-Ok-eq0 : goal.returns-in-Ok-eq0
returns-in-Ok-eq0 g c =
    let size : length c.read.new.buf ≡ length c.deref_mut.result.now - c.args.self.now.end = omega (arith, length-take {A = ℕ}, length-drop {A = ℕ}) in
    let room : 0 < length c.read.new.buf = omega (arith, c.deref_mut.ensures.len) in
    let none : c.in-Ok-eq0.field-0 ≡ 0 = grind (arith, nat_tests, c.in-Ok-eq0.field-0-test) in (
      c.in-Ok-eq0.ensures.bytes.1 none room,
      window-unread c.args.self.now.bytes.len c.args.self.now.bytes.items c.deref_mut.result.now c.read.new.buf c.args.self.now.start c.args.self.now.end c.deref_mut.ensures.value c.args.self.now.bytes.ok.0 c.args.self.now.order c.args.self.now.inside size,
    )

pub returns-in-Ok : goal.returns-in-Ok
returns-in-Ok g c =
    let size : length c.read.new.buf ≡ length c.deref_mut.result.now - c.args.self.now.end = omega (arith, length-take {A = ℕ}, length-drop {A = ℕ}) in (
      take c.in-Ok.count c.read.new.buf,
      sym c.in-Ok.ensures.bound.1,
      c.in-Ok.ensures.bytes.0,
      window-read c.args.self.now.bytes.len c.args.self.now.bytes.items c.deref_mut.result.now c.read.new.buf c.args.self.now.start c.args.self.now.end c.in-Ok.count c.deref_mut.ensures.value c.args.self.now.bytes.ok.0 c.args.self.now.order c.args.self.now.inside size c.in-Ok.ensures.bound.0,
    )

pub returns-in-WouldBlock : goal.returns-in-WouldBlock
returns-in-WouldBlock g c =
    let size : length c.read.new.buf ≡ length c.deref_mut.result.now - c.args.self.now.end = omega (arith, length-take {A = ℕ}, length-drop {A = ℕ}) in (
      c.in-Err.ensures.bytes,
      window-unread c.args.self.now.bytes.len c.args.self.now.bytes.items c.deref_mut.result.now c.read.new.buf c.args.self.now.start c.args.self.now.end c.deref_mut.ensures.value c.args.self.now.bytes.ok.0 c.args.self.now.order c.args.self.now.inside size,
    )

pub returns-in-Interrupted : goal.returns-in-Interrupted
returns-in-Interrupted g c =
    let size : length c.read.new.buf ≡ length c.deref_mut.result.now - c.args.self.now.end = omega (arith, length-take {A = ℕ}, length-drop {A = ℕ}) in (
      c.in-Err.ensures.bytes,
      window-unread c.args.self.now.bytes.len c.args.self.now.bytes.items c.deref_mut.result.now c.read.new.buf c.args.self.now.start c.args.self.now.end c.deref_mut.ensures.value c.args.self.now.bytes.ok.0 c.args.self.now.order c.args.self.now.inside size,
    )

pub returns-in_default : goal.returns-in_default
returns-in_default g c =
    let size : length c.read.new.buf ≡ length c.deref_mut.result.now - c.args.self.now.end = omega (arith, length-take {A = ℕ}, length-drop {A = ℕ}) in (
      c.in-Err.ensures.bytes,
      window-unread c.args.self.now.bytes.len c.args.self.now.bytes.items c.deref_mut.result.now c.read.new.buf c.args.self.now.start c.args.self.now.end c.deref_mut.ensures.value c.args.self.now.bytes.ok.0 c.args.self.now.order c.args.self.now.inside size,
    )
