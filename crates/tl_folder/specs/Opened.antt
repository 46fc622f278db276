-- Files that are kept open, as contracts see them.
use Rattle.std.specs.Prelude.{List, Option}
use Rattle.tl_device.specs.declared.fault.DeviceFault.{DeviceFault}
use Rattle.tl_folder.specs.Step.{Path, Bytes}
use Rattle.tl_folder.specs.FileCalls.{Call}

-- a file that is replaced: its path, the bytes that last replaced others, and the system calls so far
pub record Replaced : Type 0 where
  pub path : Path
  pub bytes : Bytes
  pub calls : List Call

-- a file that is appended to: its path, what was written, the system calls so far, and why the last write failed, if
-- it did
pub record Appended : Type 0 where
  pub path : Path
  pub written : Bytes
  pub calls : List Call
  pub fault : Option DeviceFault

-- a locked folder: the path by which it was locked
pub record Locked : Type 0 where
  pub place : Path
