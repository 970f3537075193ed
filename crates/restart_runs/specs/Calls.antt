-- Read this.
-- Processors that crash and start again, and messages that are posted again, by the calls themselves, for a recipe's bytes and a route.
-- Renders document 01, "The machine" and "Runs", for them.
use Rattle.std.specs.Prelude.{ℕ, List, ltb}
use Rattle.base.specs.Tests.{pick}
use Rattle.machine.specs.Machine.{Answered}
use Rattle.network.specs.Apart.{replaced}
use Rattle.network.specs.Packets.{Network, network_of}
use Rattle.restarts.specs.Restarts.{LifeEvent, plain, repost_of, restart_of, repost}
use Rattle.engine.specs.Calls.{recipe, fresh_call}
use Rattle.network_runs.specs.Calls.{Sources, calls_network}

-- a new start is the fresh start's call, on the processor's own areas as they stand
unfoldable pub restart_by_call : List ℕ → ℕ → Sources → Network → ℕ → Answered Network
restart_by_call bytes route sources n b =
    pick (ltb b (recipe bytes route).processors)
    (record {
      number = (fresh_call bytes route (sources b) (n.areas b)).number;
      after = network_of (replaced n.areas b (fresh_call bytes route (sources b) (n.areas b)).after) n.packets;
    })
    (record { number = 11; after = n })

-- a post again is no call: it reads the message's status and words in the sender's areas, and writes nothing there
unfoldable pub calls_lives : List ℕ → ℕ → Sources → Network → LifeEvent → Answered Network
calls_lives bytes route sources n (plain e) = calls_network bytes route sources n e
calls_lives bytes route sources n (repost_of m) = repost (recipe bytes route) n m
calls_lives bytes route sources n (restart_of b) = restart_by_call bytes route sources n b
