-- `text::write::put_number` meets its contract: the digits before the last are the decimal text of a tenth. Assumes nothing.
use Rattle.std.proofs.Common.{ℕ, ◌+◌, ◌%◌, List, [], ◌∷◌, ◌++◌, ap, sym, ◌∙◌, arith, add-one}
use Rattle.std.proofs.Math.Seq.{take-suc-set}
use Rattle.text.proofs.DecimalLaws.{decimal_digit, decimal-more, length-decimal-digit, length-decimal-more}
use Rattle.text.proofs.write.+put_number.Goals as goal

-- one digit
pub bounds-out-0 : goal.bounds-out-0
bounds-out-0 t c = omega (arith, length-decimal-digit c.args.n c.if-n-lt10.true)

pub returns-then-n-lt10-clause-end : goal.returns-then-n-lt10-clause-end
returns-then-n-lt10-clause-end t c = sym (length-decimal-digit c.args.n c.if-n-lt10.true)

pub returns-then-n-lt10-clause-text : goal.returns-then-n-lt10-clause-text
returns-then-n-lt10-clause-text t c =
    take-suc-set c.args.out.now 0 _ (omega (arith, length-decimal-digit c.args.n c.if-n-lt10.true))
    ∙ sym (decimal_digit c.args.n c.if-n-lt10.true)

-- the digits before the last, and the last
pub put_number-end-requires : goal.put_number-end-requires
put_number-end-requires t c = (omega arith, omega (arith, length-decimal-more c.args.n c.if-n-lt10.false))

pub bounds-out-end : goal.bounds-out-end
bounds-out-end t c = omega (arith, length-decimal-more c.args.n c.if-n-lt10.false)

pub returns-clause-end : goal.returns-clause-end
returns-clause-end t c = omega (arith, length-decimal-more c.args.n c.if-n-lt10.false)

pub returns-clause-text : goal.returns-clause-text
returns-clause-text t c =
    rw add-one
    (take-suc-set c.put_number-end.new.out c.put_number-end.result _ (omega (arith, length-decimal-more c.args.n c.if-n-lt10.false))
    ∙ ap (λ (l : List ℕ). l ++ ((48 + c.args.n % 10) ∷ [])) c.put_number-end.ensures.text
    ∙ sym (decimal-more c.args.n c.if-n-lt10.false))
