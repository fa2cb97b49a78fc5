use Rattle.std.proofs.Common.{◌≡◌, ◌++◌, map}
use Rattle.st_heads.proofs.Listed.{put_at}
use Rattle.st_heads.proofs.back.puts_of.Given as goal

-- what is listed, and what is left to list
abbrev pub invariant-loop-node : goal.invariant-loop-node
invariant-loop-node l = l.puts ++ map put_at l.node-iterator ≡ map put_at l.back.entries
