use Rattle.script.proofs.Finding.{finds_none}
use Rattle.script.proofs.Giving.{filter_at, mask_at}
use Rattle.script.proofs.settings.filter_parts.Goals as goal

pub returns-in_err-attribute : goal.returns-in_err-attribute
returns-in_err-attribute c =
    finds_none _ _ c.from_residual.ensures (λ p f. c.in_err-attribute.ensures (p.0, f.more) f.leads)

pub returns-in_err-lone_word : goal.returns-in_err-lone_word
returns-in_err-lone_word c =
    finds_none _ _ c.from_residual-in_err-lone_word.ensures
    (λ p f. let at = (filter_at c.in_ok-attribute.ensures f).1 in c.in_err-lone_word.ensures at.0 at.1)

pub returns-in_err-read_mask : goal.returns-in_err-read_mask
returns-in_err-read_mask c =
    finds_none _ _ c.from_residual-in_err-read_mask.ensures
    (λ p f. c.in_err-read_mask.ensures p.1 (mask_at c.in_ok-attribute.ensures c.in_ok-lone_word.ensures f))
