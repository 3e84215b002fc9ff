use Rattle.std.proofs.Common.{◌≡◌, ◌<◌, length, None, subst, refl, ◌∙◌, arith}
use Rattle.std.proofs.lemmas.Bool.{lt-ltb}
use Rattle.model.specs.Answers.{refused_by}
use Rattle.model.specs.Bounded.{listed}
use Rattle.protection.specs.Commands.{name_at}
use Rattle.protection.specs.Entries.{entry_of}
use Rattle.protection.specs.Operations.{with_entry}
use Rattle.protection.specs.Tables.{protection_of}
use Rattle.register.proofs.EntriesPut.{PutSoFar, one_put, all_put}
use Rattle.register.proofs.putting.put_entries.Goals as goal

pub loop-i-preserved : goal.loop-i-preserved
loop-i-preserved c =
    let names = c.args.names.now in
    let back = (protection_of c.args.back.now).entry in
    let old = entry_of c.args.entries.now in
    let before = entry_of c.loop-i.entries in
    let i = c.loop-i.i in
    let inside : i < length (listed names.items) = omega (arith, c.loop-i-test.true, c.len-i-end.ensures) in
    let small : c.at.result < 64 = rw c.at.ensures (names.named i inside) in
    let accepted : refused_by c.put-put.result ≡ None = c.put-put.ensures.answer ∙ rw (lt-ltb c.at.result 64 small) refl in
    let after : entry_of c.put-put.new.self ≡ with_entry before (name_at (listed names.items) i) (back i) = c.put-put.ensures.after ∙ rw (accepted, c.at.ensures, c.entry.ensures) refl in
    rw after (one_put (listed names.items) back old i before names.distinct inside c.loop-i.invariant)

pub returns : goal.returns
returns c =
    let names = listed c.args.names.now.items in
    let back = (protection_of c.args.back.now).entry in
    let old = entry_of c.args.entries.now in
    let now = entry_of c.loop-i.entries in
    let all : c.loop-i.i ≡ length names = omega (arith, c.loop-i-test.false, c.loop-i.auto.i-end, c.len-i-end.ensures) in
    all_put names back old now (subst (λ k. PutSoFar names back old k now) all c.loop-i.invariant)
