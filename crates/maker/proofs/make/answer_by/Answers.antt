use Rattle.std.proofs.lemmas.Result.{err_from_is_err_and}
use Rattle.model.specs.Faults.{layer_number, reason_number}
use Rattle.certificates.specs.Views.{bans_of}
use Rattle.register.specs.Views.{kept_by, state_of}
use Rattle.maker.proofs.Handing.{as_refused, not_read, no_room, made_or_none}
use Rattle.maker.proofs.make.answer_by.Goals as goal

pub returns-in_err-bans : goal.returns-in_err-bans
returns-in_err-bans g c =
    let p = err_from_is_err_and c.from_residual.result c.from_residual.ensures.1 in
    let f = c.in_err-bans.field-0.0 in
    rw (p.1, p.2)
    (not_read (kept_by c.args.register.now) (state_of c.args.register.now) c.args.bans.now c.args.buffer.now (layer_number f.layer) (reason_number f.reason) f.place
    (rw c.counts.ensures at c.in_err-bans.ensures.reading))

pub returns-then-buffer-lt-FULL_SIZE : goal.returns-then-buffer-lt-FULL_SIZE
returns-then-buffer-lt-FULL_SIZE g c =
    let fault = c.fault_of.ensures in
    no_room (kept_by c.args.register.now) (state_of c.args.register.now) c.args.bans.now c.args.buffer.now (bans_of c.in_ok-bans.bans)
    (rw c.counts.ensures at c.in_ok-bans.ensures.reading)
    c.fault_of.result
    c.if-buffer-lt-FULL_SIZE.true
    (as_refused c.fault_of.result 6 20 0 fault.layer fault.rule fault.place)

pub returns : goal.returns
returns g c =
    let fault = c.fault_of-2.ensures in
    rw c.ok_or.ensures.value
    (made_or_none (kept_by c.args.register.now) (state_of c.args.register.now) c.args.bans.now c.args.buffer.now (bans_of c.in_ok-bans.bans)
    (rw c.counts.ensures at c.in_ok-bans.ensures.reading)
    c.fault_of-2.result
    c.if-buffer-lt-FULL_SIZE.false
    (as_refused c.fault_of-2.result 6 21 0 fault.layer fault.rule fault.place)
    c.write_least.result c.write_least.new.buffer c.write_least.ensures)
