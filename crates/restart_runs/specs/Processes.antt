-- Read this.
-- Processes that are one processor at the same time, by the calls themselves, for a recipe's bytes and a route: each is lent its own source and areas.
-- Renders the customer's demand 3 for them; any word may name the route.
use Rattle.std.specs.Prelude.{ℕ, ◌≡◌, List, [], ◌++◌, length, eqb}
use Rattle.base.specs.Tests.{pick}
use Rattle.base.specs.Lists.{Bytes}
use Rattle.base.specs.Numbers.{first_of}
use Rattle.machine.specs.Machine.{Answered, fresh}
use Rattle.layout.specs.RouteWords.{route_of}
use Rattle.recipe.specs.Routes.{lines_for}
use Rattle.network.specs.Apart.{AreasApart, replaced}
use Rattle.network.specs.Transport.{copied}
use Rattle.network.specs.Packets.{Network, network_of, packet_at}
use Rattle.network.specs.Locality.{SameSource}
use Rattle.restarts.specs.Processes.{Roles, ProcessEvent, start_of, turn_from, post_from, repost_from, arrival_at, posted_from, arrival_at_lines, repost_by, ByProcesses}
use Rattle.engine.specs.Calls.{recipe, fresh_call, turn_call, deliver_call}
use Rattle.network_runs.specs.Calls.{Sources}

-- a start and a turn are the calls on the process's own areas; a post is the delivery call, and where it gave 0 the message's words as they then are; a
-- post again reads and writes nothing; an arrival is the delivery call on the packet's words, where its message has status 0 there
unfoldable pub calls_process : List ℕ → ℕ → Sources → Roles → Network → ProcessEvent → Answered Network
calls_process bytes route sources role n (start_of q) =
    record {
      number = (fresh_call bytes route (sources q) (n.areas q)).number;
      after = network_of (replaced n.areas q (fresh_call bytes route (sources q) (n.areas q)).after) n.packets;
    }
calls_process bytes route sources role n (turn_from q) =
    record {
      number = (turn_call bytes route (sources q) (n.areas q) (role q)).number;
      after = network_of (replaced n.areas q (turn_call bytes route (sources q) (n.areas q) (role q)).after) n.packets;
    }
calls_process bytes route sources role n (post_from q m) =
    record {
      number = (deliver_call bytes route (sources q) (n.areas q) m).number;
      after = network_of (replaced n.areas q (deliver_call bytes route (sources q) (n.areas q) m).after)
          (n.packets ++ pick (eqb (deliver_call bytes route (sources q) (n.areas q) m).number 0) (posted_from (recipe bytes route) (n.areas q) m) []);
    }
calls_process bytes route sources role n (repost_from q m) = repost_by (recipe bytes route) n q m
calls_process bytes route sources role n (arrival_at q k) =
    pick (eqb (first_of (arrival_at_lines (recipe bytes route) role n q k)) 0)
    (record {
      number = (deliver_call bytes route (sources q)
          (copied (recipe bytes route) (n.areas q) (packet_at n.packets k).message (packet_at n.packets k).words)
          (packet_at n.packets k).message).number;
      after = network_of (replaced n.areas q
          (deliver_call bytes route (sources q)
          (copied (recipe bytes route) (n.areas q) (packet_at n.packets k).message (packet_at n.packets k).words)
          (packet_at n.packets k).message).after) n.packets;
    })
    (record { number = first_of (arrival_at_lines (recipe bytes route) role n q k); after = n })

-- each process's first start, in the areas that it is lent
abbrev pub start_processes : List ℕ → ℕ → Sources → AreasApart → Network
start_processes bytes route sources lent = network_of (λ q. (fresh_call bytes route (sources q) (lent q)).after) []

-- one recipe and one route for all; each process is a processor of it, its source has the words of that one's cells, and its first start gave 0
pub record BegunProcesses (bytes : List ℕ) (route : ℕ) (source : List ℕ) (role : Roles) (sources : Sources) (lent : AreasApart) : Type 0 where
  pub small : Bytes bytes
  pub accepted : first_of (lines_for (route_of route) bytes) ≡ 0
  pub own : (q : ℕ) → SameSource (recipe bytes route) (role q) (sources q) source
  pub gave : (q : ℕ) → (fresh_call bytes route (sources q) (lent q)).number ≡ 0

pub record ProcessDemands : Type 0 where
  -- every accepted recipe can so begin, with any source of its length and whatever processors the processes are
  pub begins : (bytes : List ℕ) (route : ℕ) (source : List ℕ) (role : Roles) → Bytes bytes → first_of (lines_for (route_of route) bytes) ≡ 0
      → length source ≡ (recipe bytes route).cells → BegunProcesses bytes route source role (λ q. source) (λ q. fresh (recipe bytes route))
  pub by_processes : (bytes : List ℕ) (route : ℕ) (source : List ℕ) (role : Roles) (sources : Sources) (lent : AreasApart)
      → BegunProcesses bytes route source role sources lent → (events : List ProcessEvent)
      → ByProcesses (calls_process bytes route sources role) (start_processes bytes route sources lent) events (recipe bytes route) source role
