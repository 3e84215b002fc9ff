use Rattle.std.proofs.Common.{rules, ◌≡◌, true, [], ◌∷◌, ◌++◌, ap, ◌∙◌}
use Rattle.std.proofs.lemmas.Bool.{and_from}
use Rattle.model.specs.Bounded.{listed}
use Rattle.model.specs.Lists.{each_after}
use Rattle.model.proofs.Growing.{each_push}
use Rattle.scheme.specs.Commands.{step_fits}
use Rattle.scheme.proofs.command.Command.add_step.Goals as goal

pub invariant_of-self-clause-stepped : goal.invariant_of-self-clause-stepped
invariant_of-self-clause-stepped c =
    let self = c.args.self.now in
    let fits = step_fits self.parameters.count self.parameters.cards (listed self.tests) in
    let new : listed c.push.new.self ≡ listed self.steps ++ c.args.step ∷ [] = search rules in
    let fit : fits (listed self.steps) c.args.step ≡ true = search rules in
    ap (each_after fits []) new ∙ each_push fits [] (listed self.steps) c.args.step ∙ and_from _ _ self.stepped fit
