use Rattle.std.proofs.Common.{◌≡◌, ◌+◌, [], ◌∷◌, length, length-append, refl, ap, arith}
use Rattle.st_lists.specs.declared.lists.Body.TheVariants.{Join}
use Rattle.st_lists.specs.Clients.{new_client}
use Rattle.st_lists.proofs.Logs.{last_entry}
use Rattle.st_plain.proofs.Stepping.{joined_connected, sound_joined}
use Rattle.st_plain.proofs.world.World.enter_client.Goals as goal

pub keep_minimum-requires-clause-connected : goal.keep_minimum-requires-clause-connected
keep_minimum-requires-clause-connected c =
    let w = c.args.self.now in
    let session = w.sessions + 1 in
    rw (c.in_ok-add_client.ensures, c.in_ok-append_entry.ensures.log) (joined_connected w session c.args.uuid (new_client c.len-n.result session c.args.uuid c.args.name.now) c.requires.sound (ap (λ n. n + 1) c.requires.sound.counted) refl refl)

pub returns-clause-sound : goal.returns-clause-sound
returns-clause-sound c =
    let w = c.args.self.now in
    let session = w.sessions + 1 in
    let logged = c.in_ok-append_entry.ensures.log in
    let n : c.len-n.result ≡ length w.lists.log + 1 = omega (arith, c.len-n.ensures, ap length logged, length-append w.lists.log (last_entry w.lists.log session (Join c.args.uuid) ∷ [])) in
    let knows = rw logged at c.in_ok-append_entry.ensures.known in
    let opened = c.in_ok-add_replica.ensures in
    rw (c.in_ok-keep_minimum.ensures.world, c.in_ok-add_client.ensures, opened.1, logged)
    (sound_joined w c.args.name.now c.len-n.result session c.args.uuid (new_client c.len-n.result session c.args.uuid c.args.name.now) opened.0 c.append_entry.new.known c.requires.sound c.requires.clients c.requires.entries (ap (λ n. n + 1) c.requires.sound.counted) n knows refl
    opened.2)
