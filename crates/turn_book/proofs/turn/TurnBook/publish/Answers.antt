use Rattle.std.proofs.Common.{rules, ◌<◌, ◌^◌, ◌+◌, [], ◌∷◌, length, ap, ◌∙◌, arith, length-append}
use Rattle.turn_book.specs.Lists.{last}
use Rattle.turn_book.proofs.ListLemmas.{last_snoc}
use Rattle.turn_book.proofs.KeptLemmas.{publishes}
use Rattle.turn_book.proofs.ToldLemmas.{published_view, published_held, published_hand, published_length}
use Rattle.turn_book.proofs.turn.TurnBook.publish.Goals as goal

pub fetch_add-requires : goal.fetch_add-requires
fetch_add-requires g c =
    let T = g.B.Book in
    let r = c.requires.entry in
    let seen = c.args.seat.now.seat.me.0.seen in
    let small : length seen + 1 < 2 ^ 64 = omega (arith, c.len-len.ensures, ap length r.1.1, length-append seen (r.0 ∷ [])) in (
      search rules,
      search rules,
      publishes T.journal T.fixed T.by T.enters _ _ _ _ _ r.0 _ (c.requires.said ∙ (ap last r.1.1 ∙ last_snoc seen r.0)) r.1.0 small r.2,
    )

pub invariant_of-seat : goal.invariant_of-seat
invariant_of-seat g c =
    let r = c.requires.entry in
    let m = c.args.seat.now.seat.me in
    let m' = c.fetch_add.new.seat.me in
    let log = g.B.Book.journal c.args.book.now in record {
      hand = published_hand m c.fetch_add.result m' g.N.Says.entry log c.fetch_add.ensures.2 c.requires.said r.0 r.1.1 r.1.0 c.args.seat.now.hand;
      length = published_length m c.fetch_add.result m' g.N.Says.entry log c.fetch_add.ensures.2 c.requires.said r.0 r.1.1 c.len-len.result c.len-len.ensures;
    }

pub returns-clause-own : goal.returns-clause-own
returns-clause-own g c =
    let r = c.requires.entry in
    let view = published_view c.args.seat.now.seat.me c.fetch_add.result c.fetch_add.new.seat.me g.N.Says.entry (g.B.Book.journal c.args.book.now) c.fetch_add.ensures.2 c.requires.said r.0 r.1.1 in
    (c.fetch_add.ensures.0 ∙ c.requires.own.0, ap (λ x. x.0.fixed) view ∙ c.requires.own.1)

pub returns-clause-held : goal.returns-clause-held
returns-clause-held g c =
    let r = c.requires.entry in
    published_held c.args.seat.now.seat.me c.fetch_add.result c.fetch_add.new.seat.me g.N.Says.entry (g.B.Book.journal c.args.book.now) c.fetch_add.ensures.2 c.requires.said r.0 r.1.1

pub returns-clause-view : goal.returns-clause-view
returns-clause-view g c e more =
    ap (λ x. x.0) (published_view c.args.seat.now.seat.me c.fetch_add.result c.fetch_add.new.seat.me g.N.Says.entry (g.B.Book.journal c.args.book.now) c.fetch_add.ensures.2 c.requires.said e more.1)
