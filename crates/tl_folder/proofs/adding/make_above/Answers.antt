use Rattle.std.proofs.Common.{◌≡◌, Some}
use Rattle.std.specs.Path.{path_parent}
use Rattle.tl_folder.proofs.Addings.{above_made}
use Rattle.tl_folder.proofs.adding.make_above.Goals as goal

pub returns-in-Some : goal.returns-in-Some
returns-in-Some g c =
    let above : path_parent c.args.path.now ≡ Some c.as_str.result.now = cc (c.in-Some.ensures, c.as_str.ensures, c.new.ensures) in
    above_made c.args.path.now c.as_str.result.now _ _ c.make_folders.result above c.make_folders.ensures
