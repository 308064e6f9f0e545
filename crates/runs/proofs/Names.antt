-- The names of the fields in each run of src/marks.rt; those of id 3 stand with the plans.
-- Assumes nothing.
use Prim.Native.String.{◌++◌}
use mathlib.Core.List.{List, [], ◌∷◌}
use lib.ListN.{replicate}
use Rattle.format.specs.Syntax.{Name}

-- a clock, and then others
abbrev pub clock : Name → List Name → List Name
clock c nms = (c ++ "_base") ∷ (c ++ "_reserved_zero_future_use") ∷ (c ++ "_ext") ∷ nms

-- a stamp, and then others
abbrev pub stamp : Name → List Name → List Name
stamp t nms = (t ++ "_year") ∷ (t ++ "_reserved_zero_future_use") ∷ (t ++ "_day") ∷ (t ++ "_day_fraction") ∷ nms

-- id 0
abbrev pub satellite : List Name
satellite = "satellite_id" ∷ "reserved_zero_future_use" ∷ "position_system" ∷ []

abbrev pub orbital : List Name
orbital = "orbital_position" ∷ "west_east_flag" ∷ "position.reserved_zero_future_use" ∷ []

abbrev pub elements : List Name
elements =
    "epoch_year" ∷ "day_of_the_year" ∷ "day_fraction" ∷ "mean_motion_first_derivative" ∷ "mean_motion_second_derivative" ∷ "drag_term"
    ∷ "inclination" ∷ "right_ascension" ∷ "eccentricity" ∷ "argument_of_perigree" ∷ "mean_anomaly" ∷ "mean_motion" ∷ []

-- id 1
abbrev pub cell : List Name
cell = "cell_fragment_id" ∷ "first_occurrence" ∷ []

abbrev pub last : List Name
last = "last_occurrence" ∷ []

abbrev pub centre : List Name
centre =
    "centre.reserved_zero_future_use_4" ∷ "centre_latitude" ∷ "centre.reserved_zero_future_use_5" ∷ "centre_longitude" ∷ "max_distance"
    ∷ "centre.reserved_zero_future_use_6" ∷ "delivery_system_count" ∷ []

abbrev pub no_centre : List Name
no_centre = "reserved_zero_future_use_4" ∷ "delivery_system_count" ∷ []

abbrev pub delivery : List Name
delivery = "delivery_system_id" ∷ []

abbrev pub new_count : List Name
new_count = "reserved_zero_future_use_new" ∷ "new_delivery_system_count" ∷ []

abbrev pub new_system : List Name
new_system = "new_delivery_system_id" ∷ clock "time_of_application" []

abbrev pub old_count : List Name
old_count = "reserved_zero_future_use_obsolescent" ∷ "obsolescent_delivery_system_count" ∷ []

abbrev pub old_system : List Name
old_system = "obsolescent_delivery_system_id" ∷ clock "time_of_obsolescence" []

-- id 2
abbrev pub type : List Name
type = "association_type" ∷ []

abbrev pub time : List Name
time = clock "ncr" ("association_timestamp_seconds" ∷ "association_timestamp_nanoseconds" ∷ [])

abbrev pub leap_time : List Name
leap_time = "leap59" ∷ "leap61" ∷ "pastleap59" ∷ "pastleap61" ∷ time

abbrev pub no_leap_time : List Name
no_leap_time = "reserved_zero_future_use_4" ∷ time

-- id 4
abbrev pub header : List Name
header = "oem_version_major" ∷ "oem_version_minor" ∷ stamp "creation_date" []

abbrev pub satellite3 : List Name
satellite3 = "satellite_id" ∷ "reserved_zero_future_use" ∷ "metadata_flag" ∷ []

abbrev pub start : List Name
start = "usable_start_time_flag" ∷ []

abbrev pub stop : List Name
stop = "usable_stop_time_flag" ∷ []

abbrev pub accel : List Name
accel = "ephemeris_accel_flag" ∷ []

abbrev pub cov : List Name
cov = "covariance_flag" ∷ []

abbrev pub metadata : List Name
metadata =
    stamp "total_start_time" (stamp "total_stop_time" ("metadata.reserved_zero_future_use" ∷ "interpolation_flag" ∷ "interpolation_type" ∷ "interpolation_degree" ∷ []))

abbrev pub count : List Name
count = "ephemeris_data_count" ∷ []

-- an ephemeris entry, and then others
abbrev moving : List Name → List Name
moving nms =
    stamp "epoch" ("ephemeris_x" ∷ "ephemeris_y" ∷ "ephemeris_z" ∷ "ephemeris_x_dot" ∷ "ephemeris_y_dot" ∷ "ephemeris_z_dot" ∷ nms)

abbrev pub motion : List Name
motion = moving []

abbrev pub accelerated : List Name
accelerated = moving ("ephemeris_x_ddot" ∷ "ephemeris_y_ddot" ∷ "ephemeris_z_ddot" ∷ [])

abbrev pub covariance : List Name
covariance = stamp "covariance_epoch" (replicate 21 "covariance_elements")
