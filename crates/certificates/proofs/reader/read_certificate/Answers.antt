use Rattle.certificates.proofs.Readings.{accepted_exactly}
use Rattle.certificates.proofs.reader.read_certificate.Goals as goal

pub returns-clause-exact : goal.returns-clause-exact
returns-clause-exact c = accepted_exactly c.args.counts.now c.args.tape.now _ c.read_orders.ensures
