-- The request to a witness (C2SP tlog-witness, "add-checkpoint").
use Rattle.tl_witness.specs.Request.{Body}
use Rattle.tl_feed.specs.declared.question.Question.{Question}

-- the body of the request for a question
abbrev pub body_of : Question → Body
body_of question = record { old = question.old; proof = question.proof.now; note = question.note.now }
