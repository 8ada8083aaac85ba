-- The limits of what is planned and kept.
use Rattle.std.specs.Prelude.{ℕ, ◌*◌, ◌^◌}

-- the most changes that a desk accepts, and so its greatest version
abbrev pub most_version : ℕ
most_version = 524288

-- the shortest slice, in seconds
abbrev pub least_len : ℕ
least_len = 60

-- the longest slice, in seconds
abbrev pub most_len : ℕ
most_len = 3600

-- the last slice that a horizon may begin with
abbrev pub most_first : ℕ
most_first = 4223371680

-- the greatest size of a price in a claim
abbrev pub most_price : ℕ
most_price = 10 ^ 12

-- the greatest size of a price less what its request's seconds cost of a quota
abbrev pub most_net_price : ℕ
most_net_price = 2 * 10 ^ 12

-- the greatest price of a second of a quota
abbrev pub most_quota_price : ℕ
most_quota_price = 200000

-- the most seconds that a quota may have
abbrev pub most_quota : ℕ
most_quota = 100000000

-- the longest observation, in seconds
abbrev pub most_seconds : ℕ
most_seconds = 86400

-- the longest exposure and the greatest overhead, in milliseconds
abbrev pub most_ms : ℕ
most_ms = 86400000

-- the greatest period and jitter of a cadence, in seconds
abbrev pub most_period : ℕ
most_period = 15552000

-- the greatest value of a request
abbrev pub most_value : ℕ
most_value = 288000000

-- the last second that a span may name
abbrev pub most_moment : ℕ
most_moment = 10 ^ 12

-- the most slices of a horizon
abbrev pub most_slices : ℕ
most_slices = 1440

-- the most lanes of rounds of prices that a plan is sought in
abbrev pub most_lanes : ℕ
most_lanes = 8

-- the most rounds of a lane
abbrev pub most_rounds : ℕ
most_rounds = 256

-- the most workers that seek a plan
abbrev pub most_workers : ℕ
most_workers = 8

-- the most requests of a snapshot, which a desk has pending, and so the most placements of a plan; the most groups and quotas
abbrev pub most_pending : ℕ
most_pending = 1024

-- the most requests of a group: those of a cadence
abbrev pub most_members : ℕ
most_members = 256

-- the most requests that a document lists, and so the most of a ONEOF or an AND
abbrev pub most_asked : ℕ
most_asked = 32

-- the most windows of a request
abbrev pub most_windows : ℕ
most_windows = 32

-- the most configurations of a request, and so the most targets; the most lengths of exposures of a configuration
abbrev pub most_configurations : ℕ
most_configurations = 16

-- the most exposures of one length
abbrev pub most_exposures : ℕ
most_exposures = 10000

-- the most thousandths of its value that a request loses with each slice of delay
abbrev pub most_fade : ℕ
most_fade = 1000

-- all of an observation, in percent
abbrev pub most_percent : ℕ
most_percent = 100

-- the least intra-proposal priority, in thousandths
abbrev pub least_ipp : ℕ
least_ipp = 500

-- the greatest intra-proposal priority, in thousandths
abbrev pub most_ipp : ℕ
most_ipp = 2000

-- the greatest priority
abbrev pub most_priority : ℕ
most_priority = 100

-- the greatest number of a request, a group or a slice
abbrev pub most_number : ℕ
most_number = 4294967295

-- the most bytes of a name, and of a text of a line that is no document
abbrev pub most_name : ℕ
most_name = 128

-- the most accounts of a desk
abbrev pub most_accounts : ℕ
most_accounts = 1024

-- the most seconds that one line grants
abbrev pub most_grant : ℕ
most_grant = 1000000000

-- the most instrument types that a telescope carries
abbrev pub most_carried : ℕ
most_carried = 16

-- the most callers that a desk has at once
abbrev pub most_callers : ℕ
most_callers = 8

-- the most telescopes
abbrev pub most_telescopes : ℕ
most_telescopes = 32

-- the most spans of all skies
abbrev pub most_visibility : ℕ
most_visibility = 262144

-- the most spans of a list in a line
abbrev pub most_spans : ℕ
most_spans = 512

-- the most possible starts of a snapshot that is planned
abbrev pub most_starts : ℕ
most_starts = 1048576

-- no bound reaches it
abbrev pub bound_limit : ℕ
bound_limit = 10 ^ 17
