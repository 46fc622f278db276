use Rattle.std.proofs.Common.{rules}
use Rattle.tl_run.proofs.PrivateFiles.{private_of, private_refused}
use Rattle.tl_run.proofs.keys.read_private_key.Goals as goal

pub returns-in-Err-OutOfMemory : goal.returns-in-Err-OutOfMemory
returns-in-Err-OutOfMemory g c =
    let given = rw c.in-Err-OutOfMemory.field-0-is at c.in-Err-OutOfMemory.ensures in
    (given.0, private_of g.K.KeyKind.KIND c.args.bytes.now c.in-Ok.text.now c.without_newline.result.now _ c.in-Ok.ensures.cases.0 c.without_newline.ensures given.1)

pub returns-in-Err : goal.returns-in-Err
returns-in-Err g c =
    private_refused g.K.KeyKind.KIND c.args.bytes.now c.in-Ok.text.now c.without_newline.result.now c.in-Err.field-0 c.in-Ok.ensures.cases.0 c.without_newline.ensures (search rules) c.in-Err.ensures

pub returns-in-Ok-read_signer_key : goal.returns-in-Ok-read_signer_key
returns-in-Ok-read_signer_key g c =
    private_of g.K.KeyKind.KIND c.args.bytes.now c.in-Ok.text.now c.without_newline.result.now _ c.in-Ok.ensures.cases.0 c.without_newline.ensures c.in-Ok-read_signer_key.ensures
