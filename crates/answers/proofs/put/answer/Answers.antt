use Rattle.text.proofs.Putting.{put_as}
use Rattle.answers.proofs.Served.{malformed_is, fine_is}
use Rattle.answers.proofs.Texts.{of_answer}
use borrow.Author.Rules.{rules}
use Rattle.answers.proofs.put.answer.Goals as goal

pub returns-then-not-fine : goal.returns-then-not-fine
returns-then-not-fine c =
    let p = put_as (malformed_is _ _ _ c.closed-whole.ensures c.fine.ensures c.if-not-fine.true) c.put_answer.ensures in
    record { of_answer = of_answer _ _ p; put = p }

pub returns : goal.returns
returns c =
    let p = put_as (fine_is _ c.closed-whole.result _ c.closed-whole.ensures c.fine.ensures c.if-not-fine.false (search rules)) c.put_judged.ensures in
    record { of_answer = of_answer _ _ p; put = p }
