use Rattle.model.specs.Faults.{layer_number, reason_number}
use Rattle.certificates.specs.Views.{bans_of, certificate_of}
use Rattle.register.specs.Views.{kept_by, state_of}
use Rattle.checker.proofs.Witnessing.{no_witness, witness_of, tapes_refused, refused_by}
use Rattle.checker.proofs.check.witness.Goals as goal

pub returns-in-Ok-clause-shows : goal.returns-in-Ok-clause-shows
returns-in-Ok-clause-shows g c =
    witness_of (kept_by c.args.register.now) (state_of c.args.register.now) c.args.certificate.now c.args.bans.now (certificate_of c.in-Ok.certificate) (bans_of c.in-Ok.bans) c.find_flaw.result c.in-Ok.ensures c.find_flaw.ensures

pub returns-in-Ok-clause-refusal : goal.returns-in-Ok-clause-refusal
returns-in-Ok-clause-refusal g c =
    refused_by (kept_by c.args.register.now) (state_of c.args.register.now) c.args.certificate.now c.args.bans.now (certificate_of c.in-Ok.certificate) (bans_of c.in-Ok.bans) c.find_flaw.result c.in-Ok.ensures c.find_flaw.ensures

pub returns-in-Err-clause-shows : goal.returns-in-Err-clause-shows
returns-in-Err-clause-shows g c =
    let f = c.in-Err.field-0 in
    no_witness (kept_by c.args.register.now) (state_of c.args.register.now) c.args.certificate.now c.args.bans.now (layer_number f.layer) (reason_number f.reason) f.place c.in-Err.ensures

pub returns-in-Err-clause-refusal : goal.returns-in-Err-clause-refusal
returns-in-Err-clause-refusal g c =
    let f = c.in-Err.field-0 in
    tapes_refused (kept_by c.args.register.now) (state_of c.args.register.now) c.args.certificate.now c.args.bans.now (layer_number f.layer) (reason_number f.reason) f.place c.in-Err.ensures
